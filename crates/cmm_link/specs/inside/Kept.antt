-- Rows of labels of which each keeps its place only if its name is after the last one that is kept.
use Rattle.std.specs.Prelude.{cond, List, [], ◌∷◌, ◌-◌, ℕ, Bool, Option, Some, length, slice_get}
use Rattle.std.specs.Option.{option_map}
use Rattle.std.specs.Cmp.Lexicographic.{slice_cmp}
use Rattle.std.specs.List.Sorted.{IsSortedBy}
use Rattle.std.specs.Ordering.{is_lt, nat_cmp}
use Rattle.cmm_image.specs.declared.rows.LabelRow.{LabelRow}
use Rattle.cmm_image.specs.ImageFormat.{is_after}

abbrev pub kept_after : Option (List ℕ) → List LabelRow → List LabelRow
kept_after before [] = []
kept_after before (row ∷ rows) = cond (is_after before row.name) (row ∷ kept_after (Some row.name) rows) (kept_after before rows)

-- the name of the last row
abbrev pub last_name : List LabelRow → Option (List ℕ)
last_name rows = option_map (λ row. row.name) (slice_get rows (length rows - 1))

-- one name is before another
abbrev pub has_lower_name : LabelRow → LabelRow → Bool
has_lower_name a b = is_lt (slice_cmp nat_cmp a.name b.name)

abbrev pub AreSorted : List LabelRow → Type 0
AreSorted rows = IsSortedBy has_lower_name rows
