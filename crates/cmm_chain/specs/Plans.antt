-- How procedures are compiled: the layout of their frames, the places of their locals, and which locals are live at their sites.
use Rattle.std.specs.Prelude.{◌≡◌, ℕ, ◌+◌, ◌%◌, ◌==◌, ◌&&◌, not, nat_le, Bool, true, false, List, [], ◌∷◌, ◌++◌, is_some, Option, Some, None}
use Rattle.std.specs.List.{list_all}
use Rattle.cmm_chain.specs.declared.frame.Frame.{Frame}
use Rattle.cmm_chain.specs.declared.frame.Location.{Location}
use Rattle.cmm_chain.specs.declared.frame.Location.TheVariants.{Slot, Saved, Temp}
use Rattle.cmm_abi.specs.Registers.{is_callee_saves, is_temporary}

pub record Plan : Type 0 where
  -- which numbers are those of procedures
  pub is_procedure : ℕ → Bool
  pub frame : ℕ → Frame
  -- of a procedure and the number of a local
  pub place : ℕ → ℕ → Location
  -- of a procedure, a site and the number of a local
  pub live : ℕ → ℕ → ℕ → Bool

-- ---- locations

-- A register of its kind, in which a local may be. A slot is none.
abbrev pub is_register : Location → Bool
is_register (Slot offset) = false
is_register (Saved r) = is_callee_saves r
is_register (Temp r) = is_temporary r

-- ---- saved registers

-- the offset at which a register is saved
abbrev pub saved_in : List (ℕ × ℕ) → ℕ → Option ℕ
saved_in [] r = None
saved_in ((register, offset) ∷ rest) r = elim (r == register) [ true ↦ Some offset | false ↦ saved_in rest r ]

abbrev pub saved_at : Plan → ℕ → ℕ → Option ℕ
saved_at plan q r = saved_in (plan.frame q).saved r

-- ---- what is written into a frame when it is entered

abbrev pub saved_offsets : List (ℕ × ℕ) → List ℕ
saved_offsets [] = []
saved_offsets ((register, offset) ∷ rest) = offset ∷ saved_offsets rest

-- both words of each pair
abbrev pub pair_offsets : List ℕ → List ℕ
pair_offsets [] = []
pair_offsets (offset ∷ rest) = offset ∷ (offset + 8) ∷ pair_offsets rest

-- the words of a frame that hold no local
abbrev pub fixed_offsets : Frame → List ℕ
fixed_offsets f = f.return_at ∷ saved_offsets f.saved ++ pair_offsets f.pairs

-- ---- layouts

abbrev pub is_fresh : ℕ → List ℕ → Bool
is_fresh offset [] = true
is_fresh offset (other ∷ rest) = not (offset == other) && is_fresh offset rest

abbrev pub are_distinct : List ℕ → Bool
are_distinct [] = true
are_distinct (offset ∷ rest) = is_fresh offset rest && are_distinct rest

-- 8 bytes inside a frame of a size, at a multiple of 8
abbrev pub is_word_in : ℕ → ℕ → Bool
is_word_in size offset = (offset % 8 == 0) && nat_le (offset + 8) size

-- what a chain requires of a frame: its words lie inside, and no two are one
abbrev pub is_laid : Frame → Bool
is_laid f = (f.size % 16 == 0) && (list_all (is_word_in f.size) (fixed_offsets f) && are_distinct (fixed_offsets f))

-- and of a place: a word inside the frame that holds nothing else, a callee-saves register that the procedure saves, or another
-- register
abbrev pub is_place : Frame → Location → Bool
is_place f (Slot offset) = is_word_in f.size offset && is_fresh offset (fixed_offsets f)
is_place f (Saved r) = is_register (Saved r) && is_some (saved_in f.saved r)
is_place f (Temp r) = is_register (Temp r)

pub record IsPlanned (plan : Plan) : Type 0 where
  pub laid : (q : ℕ) → plan.is_procedure q ≡ true → is_laid (plan.frame q) ≡ true
  pub places : (q v : ℕ) → plan.is_procedure q ≡ true → is_place (plan.frame q) (plan.place q v) ≡ true
