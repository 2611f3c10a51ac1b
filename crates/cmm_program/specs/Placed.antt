-- Which placements of a program are valid.
use Rattle.std.specs.List.{list_all}
use Rattle.std.specs.Str.{bytes_eq}
use Rattle.std.specs.Prelude.{ℕ, ◌+◌, ◌%◌, ◌==◌, ◌&&◌, ◌||◌, nat_le, nat_lt, Bool, true, false, IsTrue, List, [], ◌∷◌, length, map, Some, None}
use Rattle.cmm_program.specs.declared.procedure.Proc.{Proc}
use Rattle.cmm_program.specs.declared.procedure.StackItem.{StackItem}
use Rattle.cmm_program.specs.declared.program.Program.{Program}
use Rattle.cmm_program.specs.declared.placement.Placement.{Placement}
use Rattle.cmm_program.specs.declared.placement.PlaceRow.{PlaceRow}
use Rattle.rv_table.specs.Memory.{code_base, data_base}
use Rattle.cmm_program.specs.Layout.{stackdata_labels, stackdata_size}
use Rattle.cmm_program.specs.Bounds.{frame_bound}
use Rattle.cmm_program.specs.Frames.{stackdata_offset}

-- code has the addresses from its base up to that of data for itself
abbrev pub is_code_address : ℕ → Bool
is_code_address address = (address % 4 == 0) && nat_le code_base address && nat_lt address data_base

abbrev pub is_frame_size : Proc → ℕ → Bool
is_frame_size p size = (size % 16 == 0) && nat_le size (frame_bound p)

-- ---- pairs: 16 bytes each

abbrev pub is_pair_in : ℕ → ℕ → Bool
is_pair_in frame offset = (offset % 8 == 0) && nat_le (offset + 16) frame

-- n bytes from an offset on and the pair at another have none in common
abbrev pub apart : ℕ → ℕ → ℕ → Bool
apart offset size pair = (size == 0) || nat_le (offset + size) pair || nat_le (pair + 16) offset

abbrev pub pairs_apart : List ℕ → Bool
pairs_apart [] = true
pairs_apart (offset ∷ offsets) = list_all (λ other. apart offset 16 other) offsets && pairs_apart offsets

abbrev pub are_pairs : Proc → PlaceRow → Bool
are_pairs p row = (length row.pairs == length p.conts) && list_all (is_pair_in row.frame) row.pairs && pairs_apart row.pairs

-- ---- stackdata

-- the offsets are one base plus the places of the labels
abbrev pub are_labels : ℕ → List StackItem → List ℕ → Bool
are_labels base items offsets = bytes_eq offsets (map (λ place. base + place) (stackdata_labels items))

-- stackdata from a base, a multiple of 16, inside the frame and apart from the pairs
abbrev pub is_stackdata_at : ℕ → Proc → PlaceRow → Bool
is_stackdata_at base p row =
    (base % 16 == 0) && nat_le (base + stackdata_size p.stack) row.frame && are_labels base p.stack row.stack
    && list_all (λ offset. apart base (stackdata_size p.stack) offset) row.pairs

-- The first label shows the base. Stackdata without a label has no addresses, and the row then names none.
abbrev pub is_stackdata : Proc → PlaceRow → Bool
is_stackdata p row = elim (stackdata_offset p row) [
  | Some base ↦ is_stackdata_at base p row
  | None ↦ are_labels 0 p.stack row.stack
]

-- ---- a row, and a whole placement

abbrev pub is_row_placed : Proc → PlaceRow → Bool
is_row_placed p row = is_code_address row.code && is_frame_size p row.frame && are_pairs p row && is_stackdata p row

-- a row for each procedure, and no other
abbrev pub are_rows_placed : List Proc → List PlaceRow → Bool
are_rows_placed [] [] = true
are_rows_placed (p ∷ ps) (row ∷ rows) = is_row_placed p row && are_rows_placed ps rows
are_rows_placed _ _ = false

-- each address above the one before
abbrev pub ascend_from : ℕ → List PlaceRow → Bool
ascend_from address [] = true
ascend_from address (row ∷ rows) = nat_lt address row.code && ascend_from row.code rows

-- a placement that a machine may use
pub record IsPlaced (program : Program) (placement : Placement) : Type 0 where
  pub rows : IsTrue (are_rows_placed program.procs placement.rows)
  pub ascending : IsTrue (ascend_from 0 placement.rows)
