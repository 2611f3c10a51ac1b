-- Values go out to where they travel: which of them go together, and what is so when some have gone.
use Rattle.std.specs.Prelude.{◌≡◌, ◌≢◌, ◌⊎◌, ℕ, suc, ◌+◌, ◌-◌, ◌*◌, ◌<◌, ◌≤◌, ◌^◌, ◌&&◌, not, nat_le, nat_lt, Bool, true, false, List, [], ◌∷◌, ◌++◌, Option, Some, None, is_some, slice_get}
use Rattle.cmm_abi.specs.Registers.{is_scratch}
use Rattle.cmm_abi.specs.Regions.{LiesIn, value_place, with_word, word_at}
use Rattle.cmm_abi.specs.declared.registers.TheConstants.{FIRST_VALUE, REGION}
use Rattle.cmm_abi.specs.declared.values.TheConstants.{IN_REGISTERS}
use Rattle.cmm_chain.specs.declared.frame.Location.TheVariants.{Saved, Temp}
use Rattle.cmm_moves.specs.declared.sequencing.Move.{Move}
use Rattle.rv_table.specs.Machine.{MemoryMap, Region, State}
use Rattle.cmm_effects.specs.Changes.{Keeps}
use Rattle.cmm_select.specs.Operands.{CanBringOperand, operand_at}
use Rattle.cmm_select.specs.declared.operand.Operand.{Operand}
use Rattle.cmm_select.specs.declared.operand.Operand.TheVariants.{Held}
use Rattle.cmm_select.specs.declared.source.Source.TheVariants.{Place}
use Rattle.cmm_calls.specs.Frames.{LetsWait}

-- the value is brought, and the argument area of a region is reached by register 4
pub record CanGive (r : Region) (a : Operand) (m : MemoryMap) (s : State) : Type 0 where
  pub brings : CanBringOperand a m s
  pub lies : LiesIn r m
  pub region : s.registers REGION ≡ r.address

-- a number of 64 bits goes to where value k travels, and nothing else is changed but scratch registers
pub record GivesValue (r : Region) (k n : ℕ) (s t : State) : Type 0 where
  pub fits : n < 2 ^ 64
  pub given : Keeps (with_word (value_place r k) n s) t
  pub waits : LetsWait s t

-- ---- which values go when

-- the register in which an operand is
abbrev pub home : Operand → Option ℕ
home (Held (Place (Saved r))) = Some r
home (Held (Place (Temp r))) = Some r
home _ = None

-- what goes first, to the argument area, or last, to its register, since it is in none
abbrev pub goes_in : Bool → ℕ → Operand → Bool
goes_in true k a = nat_le IN_REGISTERS k
goes_in false k a = nat_lt k IN_REGISTERS && not (is_some (home a))

-- the moves between registers: those of the values that are in registers and travel in registers
abbrev pub move_to : ℕ → Option ℕ → List Move
move_to k None = []
move_to k (Some r) = record { to = FIRST_VALUE + k; from = r } ∷ []

abbrev pub move_for : ℕ → Operand → List Move
move_for k a = elim (nat_lt k IN_REGISTERS) [ true ↦ move_to k (home a) | false ↦ [] ]

abbrev pub moves_from : ℕ → List Operand → List Move
moves_from k [] = []
moves_from k (a ∷ rest) = move_for k a ++ moves_from (suc k) rest

abbrev pub one_if : Bool → ℕ
one_if true = 1
one_if false = 0

abbrev pub count_in : Bool → ℕ → List Operand → ℕ
count_in area k [] = 0
count_in area k (a ∷ rest) = one_if (goes_in area k a) + count_in area (suc k) rest

-- ---- what is done

-- a value goes out where a test says so
abbrev pub GivesIf : Region → Bool → ℕ → ℕ → State → State → Type 0
GivesIf r true k n s t = GivesValue r k n s t
GivesIf r false k n s t = s ≡ t

-- one of some values, which a test tells
pub record Goes (gone : ℕ → Operand → Bool) (values : List Operand) (k : ℕ) (a : Operand) : Type 0 where
  pub found : slice_get values k ≡ Some a
  pub goes : gone k a ≡ true

-- they go out as their operands were, and nothing else is changed but registers 5 and 6
pub record GivesThose (region : Region) (at : ℕ → ℕ) (gone : ℕ → Operand → Bool) (values : List Operand) (s t : State) : Type 0 where
  pub arrive : (k : ℕ) (a : Operand) → Goes gone values k a → word_at t (value_place region k) ≡ operand_at at a s
  pub registers : (r : ℕ) → is_scratch r ≡ false → ((k : ℕ) (a : Operand) → Goes gone values k a → k < IN_REGISTERS → r ≢ FIRST_VALUE + k) → t.registers r ≡ s.registers r
  pub waits : LetsWait s t
  pub memory : (b : ℕ) →
      ((k : ℕ) (a : Operand) → Goes gone values k a → IN_REGISTERS ≤ k → (b < region.address + 8 * (k - IN_REGISTERS)) ⊎ (region.address + 8 * (k - IN_REGISTERS) + 8 ≤ b)) →
      t.memory b ≡ s.memory b
