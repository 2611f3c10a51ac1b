-- What the frame of a procedure has to be, for the places of its locals.
use Rattle.std.specs.Prelude.{◌≡◌, ℕ, ◌+◌, ◌%◌, ◌==◌, ◌||◌, max, nat_le, Bool, true, false, List, [], ◌∷◌, ◌++◌, filter, map, Some, None}
use Rattle.std.specs.List.{list_all, list_any}
use Rattle.cmm_program.specs.declared.procedure.Proc.{Proc}
use Rattle.cmm_program.specs.declared.placement.PlaceRow.{PlaceRow}
use Rattle.cmm_program.specs.Layout.{stackdata_size}
use Rattle.cmm_program.specs.Frames.{stackdata_offset}
use Rattle.cmm_program.specs.Placed.{is_code_address, is_row_placed}
use Rattle.cmm_chain.specs.declared.frame.Frame.{Frame}
use Rattle.cmm_chain.specs.declared.frame.Location.{Location}
use Rattle.cmm_chain.specs.declared.frame.Location.TheVariants.{Slot, Saved}
use Rattle.cmm_abi.specs.Registers.{callee_saves}
use Rattle.cmm_chain.specs.Plans.{is_laid, is_place, is_register, fixed_offsets}

-- ---- places that a layout takes

-- a slot at a multiple of 8, or a register of its kind
abbrev pub is_location : Location → Bool
is_location (Slot offset) = offset % 8 == 0
is_location l = is_register l

-- the end of a slot
abbrev pub slot_end : Location → ℕ
slot_end (Slot offset) = offset + 8
slot_end _ = 0

-- the end of all slots
abbrev pub slots_end : List Location → ℕ
slots_end [] = 0
slots_end (l ∷ ls) = max (slot_end l) (slots_end ls)

abbrev pub slot_offset : Location → List ℕ
slot_offset (Slot offset) = offset ∷ []
slot_offset _ = []

abbrev pub slot_offsets : List Location → List ℕ
slot_offsets [] = []
slot_offsets (l ∷ ls) = slot_offset l ++ slot_offsets ls

-- ---- the registers that are saved

abbrev pub has_cuts : List ℕ → Bool
has_cuts [] = false
has_cuts (k ∷ ks) = true

-- whether a site of the procedure may be cut to
abbrev pub has_cut_exit : Proc → Bool
has_cut_exit p = list_any (λ site. has_cuts site.cuts) p.sites

abbrev pub is_kept_in : ℕ → Location → Bool
is_kept_in r (Saved s) = s == r
is_kept_in r _ = false

abbrev pub keeps_local : ℕ → List Location → Bool
keeps_local r places = list_any (is_kept_in r) places

-- A cut restores no register, so a procedure that may be cut to saves all of them, and any other those that it uses.
abbrev pub to_save : Proc → List Location → List ℕ → List ℕ
to_save p places registers = filter (λ r. has_cut_exit p || keeps_local r places) registers

abbrev pub saved_registers : Proc → List Location → List ℕ
saved_registers p places = to_save p places callee_saves

-- ---- the frame

-- the row of a placement that has this frame
abbrev pub row_with : ℕ → Frame → PlaceRow
row_with code f = record { code = code; frame = f.size; pairs = f.pairs; stack = f.stack }

-- a word and n bytes from a base on have none in common
abbrev pub is_clear : ℕ → ℕ → ℕ → Bool
is_clear base size offset = (size == 0) || (nat_le (offset + 8) base || nat_le (base + size) offset)

-- words are clear of the stackdata, if it has addresses
abbrev pub are_clear : Proc → Frame → List ℕ → Bool
are_clear p f offsets = elim (stackdata_offset p (row_with 0 f)) [
  | Some base ↦ list_all (is_clear base (stackdata_size p.stack)) offsets
  | None ↦ true
]

pub record IsFrameOf (p : Proc) (places : List Location) (f : Frame) : Type 0 where
  -- a row with it is valid wherever the code stands: pairs and stackdata lie inside and apart, and the size is within its bound
  pub placed : (code : ℕ) → is_code_address code ≡ true → is_row_placed p (row_with code f) ≡ true
  -- return address, saved registers and pairs are words inside it, and no two are one
  pub laid : is_laid f ≡ true
  -- each place is a word of its own, or a register of its kind, which is saved where it is a callee-saves register
  pub locals : list_all (is_place f) places ≡ true
  pub registers : map (λ s. s.0) f.saved ≡ saved_registers p places
  pub clear : are_clear p f (slot_offsets places ++ fixed_offsets f) ≡ true
