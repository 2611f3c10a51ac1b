-- The data labels that a program exports, and their rows in an image.
use Rattle.std.specs.Prelude.{◌≡◌, ℕ, ◌&&◌, Bool, bytes_eq, find, true, IsTrue, List, [], ◌∷◌, map, flat_map, Option, Some, None}
use Rattle.std.specs.List.{All, Contains, zip}
use Rattle.cmm_program.specs.declared.program.Label.{Label}
use Rattle.cmm_program.specs.declared.program.Program.{Program}
use Rattle.cmm_program.specs.Layout.{label_addresses}
use Rattle.cmm_image.specs.declared.rows.LabelRow.{LabelRow}
use Rattle.cmm_image.specs.ImageFormat.{is_after}

-- each name under which a label is exported, with the label's address
abbrev pub label_exports : Label × ℕ → List LabelRow
label_exports of = map (λ name. record { name = name; address = of.1 }) of.0.links

abbrev pub exports_at : List Label → List ℕ → List LabelRow
exports_at labels addresses = flat_map label_exports (zip labels addresses)

abbrev pub exports : Program → List LabelRow
exports p = exports_at p.labels (label_addresses p)

abbrev pub label_names : List LabelRow → List (List ℕ)
label_names rows = map (λ row. row.name) rows

-- each name is after the one before, by bytes
abbrev pub ascend_after : Option (List ℕ) → List (List ℕ) → Bool
ascend_after before [] = true
ascend_after before (name ∷ names) = is_after before name && ascend_after (Some name) names

abbrev pub names_ascend : List (List ℕ) → Bool
names_ascend names = ascend_after None names

-- the first row of a name
abbrev pub row_named : List LabelRow → List ℕ → Option LabelRow
row_named rows name = find (λ row. bytes_eq name row.name) rows

-- The rows have just the exported names, in ascending order, each with the address of the first label that is exported under it.
pub record AreLabelsOf (exported rows : List LabelRow) : Type 0 where
  pub first : All (λ row. row_named exported row.name ≡ Some row) rows
  pub every : All (λ export. Contains (label_names rows) export.name) exported
  pub ascending : IsTrue (names_ascend (label_names rows))
