-- Worked rows: where data and stackdata lie, and which placements are valid.
use Rattle.std.proofs.Common.{◌≡◌, true, false, refl, List, [], ◌∷◌}
use Rattle.std.specs.Prelude.{codes}
use Rattle.cmm_words.specs.declared.width.Width.TheVariants.{W8, W16, W64}
use Rattle.cmm_words.specs.declared.constant.Constant.TheVariants.{Number, Code, Address}
use Rattle.cmm_program.specs.declared.program.Program.{Program}
use Rattle.cmm_program.specs.declared.procedure.Proc.{Proc}
use Rattle.cmm_program.specs.declared.procedure.StackItem.{StackItem}
use Rattle.cmm_program.specs.declared.placement.Placement.{Placement}
use Rattle.cmm_program.specs.declared.placement.PlaceRow.{PlaceRow}
use Rattle.cmm_program.specs.Layout.{label_addresses, data_bytes, stackdata_labels, stackdata_size}
use Rattle.cmm_program.specs.Bounds.{frame_bound, step_factor}
use Rattle.cmm_program.specs.Placed.{IsPlaced, ascend_from, is_row_placed, are_rows_placed}
use Rattle.cmm_program.proofs.Samples.{stack_label, stack_bytes, continuation, datum, data_label, program, frame, frame_with}
use Rattle.cmm_program.proofs.Yielding.{divide}
use Rattle.cmm_program.proofs.Calls.{sum-main, deep, cutting}

-- ---- data: four bytes, an alignment, and two words; a label stands on what follows the alignment
divide_labels : label_addresses divide.program ≡ 0x40000000 ∷ 0x40000008 ∷ []
divide_labels = refl

divide_bytes : data_bytes divide.program divide.placement ≡
    98 ∷ 97 ∷ 100 ∷ 10 ∷ 0 ∷ 0 ∷ 0 ∷ 0 ∷ 3 ∷ 0 ∷ 0 ∷ 0 ∷ 0 ∷ 0 ∷ 0 ∷ 0 ∷ 5 ∷ 0 ∷ 0 ∷ 0 ∷ 0 ∷ 0 ∷ 0 ∷ 0 ∷ []
divide_bytes = refl

-- A procedure's address, a label's, padding, a datum of zeros, and a label at the end of a section.
abbrev mixed : Program
mixed = record (program (sum-main ∷ [])) {
  datums =
      datum 1 3 W8 [] ∷ datum 2 2 W16 (Number 0x1234 W16 ∷ []) ∷ datum 8 16 W64 (Code 0 4 ∷ Address 1 0 ∷ [])
      ∷ datum 1 1 W8 [] ∷ [];
  labels =
      data_label (codes "half") 1 ∷ record (data_label (codes "end") 4) { at_end = true }
      ∷ record (data_label (codes "first") 0) { at_end = true } ∷ [];
}

abbrev mixed-placed : Placement
mixed-placed = record { rows = record (frame 0) { code = 0x10100 } ∷ [] }

mixed_labels : label_addresses mixed ≡ 0x40000004 ∷ 0x40000019 ∷ 0x40000000 ∷ []
mixed_labels = refl

mixed_bytes : data_bytes mixed mixed-placed ≡
    0 ∷ 0 ∷ 0 ∷ 0 ∷ 0x34 ∷ 0x12 ∷ 0 ∷ 0
    ∷ 4 ∷ 1 ∷ 1 ∷ 0 ∷ 0 ∷ 0 ∷ 0 ∷ 0
    ∷ 0x19 ∷ 0 ∷ 0 ∷ 0x40 ∷ 0 ∷ 0 ∷ 0 ∷ 0
    ∷ 0 ∷ []
mixed_bytes = refl

-- ---- stackdata: a byte, a label on a word behind padding, and a trailing alignment, which counts
abbrev items : List StackItem
items = stack_bytes 1 1 ∷ stack_label 8 ∷ stack_bytes 8 8 ∷ stack_bytes 1 1 ∷ stack_label 1 ∷ stack_bytes 16 0 ∷ []

item_labels : stackdata_labels items ≡ 8 ∷ 17 ∷ []
item_labels = refl

item_size : stackdata_size items ≡ 32
item_size = refl

-- ---- bounds
factor : step_factor deep.program ≡ 2368
factor = refl

-- ---- placements
deep_is_placed : IsPlaced deep.program deep.placement
deep_is_placed = record { rows = refl; ascending = refl }

cutting_is_placed : IsPlaced cutting.program cutting.placement
cutting_is_placed = record { rows = refl; ascending = refl }

-- two continuations and the items above, in 22 tokens: a frame has at most 368 bytes
abbrev both : Proc
both = record sum-main { tokens = 22; vars = []; stack = items; conts = continuation [] ∷ continuation [] ∷ []; sites = [] }

both_bound : frame_bound both ≡ 368
both_bound = refl

abbrev row : PlaceRow
row = record (frame_with 80 (0 ∷ 56 ∷ []) (24 ∷ 33 ∷ [])) { code = 0x10000 }

row_is_placed : is_row_placed both row ≡ true
row_is_placed = refl

code_below : is_row_placed both record row { code = 0xFFFC } ≡ false
code_below = refl

code_above : is_row_placed both record row { code = 0x40000000 } ≡ false
code_above = refl

code_unaligned : is_row_placed both record row { code = 0x10002 } ≡ false
code_unaligned = refl

frame_unaligned : is_row_placed both record row { frame = 88 } ≡ false
frame_unaligned = refl

frame_above_bound : is_row_placed both record row { frame = 384 } ≡ false
frame_above_bound = refl

pair_missing : is_row_placed both record row { pairs = 0 ∷ [] } ≡ false
pair_missing = refl

pair_unaligned : is_row_placed both record row { pairs = 0 ∷ 60 ∷ [] } ≡ false
pair_unaligned = refl

pair_outside : is_row_placed both record row { pairs = 0 ∷ 72 ∷ [] } ≡ false
pair_outside = refl

pairs_overlap : is_row_placed both record row { pairs = 0 ∷ 8 ∷ [] } ≡ false
pairs_overlap = refl

pair_in_stackdata : is_row_placed both record row { pairs = 0 ∷ 40 ∷ [] } ≡ false
pair_in_stackdata = refl

label_missing : is_row_placed both record row { stack = 24 ∷ [] } ≡ false
label_missing = refl

label_elsewhere : is_row_placed both record row { stack = 24 ∷ 34 ∷ [] } ≡ false
label_elsewhere = refl

label_too_many : is_row_placed both record row { stack = 24 ∷ 33 ∷ 48 ∷ [] } ≡ false
label_too_many = refl

base_unaligned : is_row_placed both record row { stack = 32 ∷ 41 ∷ []; frame = 96; pairs = 0 ∷ 64 ∷ [] } ≡ false
base_unaligned = refl

stackdata_outside : is_row_placed both record row { stack = 72 ∷ 81 ∷ [] } ≡ false
stackdata_outside = refl

-- a row for each procedure, in ascending order of code
row_missing : are_rows_placed deep.program.procs [] ≡ false
row_missing = refl

codes_fall : ascend_from 0
    (record (frame 48) { code = 0x10010 } ∷ record (frame 32) { code = 0x10000 } ∷ []) ≡ false
codes_fall = refl
