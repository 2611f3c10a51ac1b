-- Operands where they are, and results where they are to be.
use Rattle.std.specs.Prelude.{◌≡◌, ◌≢◌, ◌⊎◌, ℕ, ◌+◌, ◌<◌, ◌≤◌, ◌==◌, ◌||◌, true, false, Option, Some, None, if◌then◌else◌}
use Rattle.cmm_abi.specs.Registers.{is_scratch}
use Rattle.cmm_abi.specs.declared.registers.TheConstants.{FIRST_SCRATCH, HELPER, ZERO}
use Rattle.cmm_words.specs.Widths.{IsWord}
use Rattle.cmm_words.specs.Words.{holds, value2}
use Rattle.cmm_words.specs.declared.operators.Cmp.{Cmp}
use Rattle.cmm_words.specs.declared.operators.Op2.{Op2}
use Rattle.cmm_words.specs.declared.width.Width.{Width}
use Rattle.cmm_chain.specs.declared.frame.Location.TheVariants.{Saved, Temp}
use Rattle.rv_asm.specs.Parts.{Code}
use Rattle.rv_table.specs.Machine.{MemoryMap, State}
use Rattle.cmm_effects.specs.Changes.{Keeps, KeepsBut}
use Rattle.cmm_effects.specs.Pieces.{BeginsQuietly, Runs}
use Rattle.cmm_select.specs.Destinations.{CanPut, PutsTo}
use Rattle.cmm_select.specs.Operands.{CanBringBoth, CanBringOperand, most_for, operand_at}
use Rattle.cmm_select.specs.declared.destination.Destination.{Destination}
use Rattle.cmm_select.specs.declared.destination.Destination.TheVariants as destination
use Rattle.cmm_select.specs.declared.operand.Operand.{Operand}
use Rattle.cmm_select.specs.declared.operand.Operand.TheVariants.{Held}
use Rattle.cmm_select.specs.declared.source.Source.TheVariants.{Place, Number}

-- ---- registers

-- the register in which an operand is: that of its place, or the one that has 0
abbrev pub home_of : Operand → Option ℕ
home_of (Held (Place (Saved r))) = Some r
home_of (Held (Place (Temp r))) = Some r
home_of (Held (Number n)) = elim (n == 0) [ true ↦ Some ZERO | false ↦ None ]
home_of _ = None

-- that in which a number for a destination is made: that of its place, or register 5
abbrev pub target_of : Destination → ℕ
target_of (destination.Place (Saved r)) = r
target_of (destination.Place (Temp r)) = r
target_of _ = FIRST_SCRATCH

-- a spare register, or one that is no scratch register
abbrev pub IsHome : ℕ → ℕ → Type 0
IsHome spare r = (r ≡ spare) ⊎ ((is_scratch r ≡ false) × (r < 32))

-- one in which a number may be made: none that has one meaning wherever code runs, and not the one that helps
abbrev pub IsTarget : ℕ → Type 0
IsTarget r = (FIRST_SCRATCH ≤ r) × (r < 32) × (r ≢ HELPER)

-- ---- operands

-- so many instructions at most, of which the first, if there is any, asks for nothing but input
pub record Passes (most : ℕ) (P : MemoryMap → State → Type 0) (Q : State → State → Type 0) (x : Code) (from to : ℕ) : Type 0 where
  pub begins : (from ≡ to) ⊎ BeginsQuietly x from
  pub runs : Runs 0 most P Q x from to

-- a register has an operand, and nothing is changed but a spare one, and register 6
pub record Locates (at : ℕ → ℕ) (a : Operand) (spare r : ℕ) (s t : State) : Type 0 where
  pub given : t.registers r ≡ operand_at at a s
  pub others : KeepsBut (λ k. (k == spare) || (k == HELPER)) s t
  pub memory : t.memory ≡ s.memory

abbrev pub LocatesOperand : Operand → ℕ → ℕ → Code → ℕ → ℕ → Type 0
LocatesOperand a spare r x = Passes (most_for a) (CanBringOperand a) (Locates x.at a spare r) x

-- two registers have two operands, and nothing is changed but scratch registers
pub record AreIn (at : ℕ → ℕ) (left right : Operand) (a b : ℕ) (s t : State) : Type 0 where
  pub first : t.registers a ≡ operand_at at left s
  pub second : t.registers b ≡ operand_at at right s
  pub keeps : Keeps s t

abbrev pub LocatesBoth : Operand → Operand → ℕ → ℕ → Code → ℕ → ℕ → Type 0
LocatesBoth left right a b x = Passes (most_for left + most_for right) (CanBringBoth left right) (AreIn x.at left right a b) x

-- two registers have words of a width
abbrev pub HaveWordsIn : Width → ℕ → ℕ → MemoryMap → State → Type 0
HaveWordsIn w a b m s = IsWord w (s.registers a) × IsWord w (s.registers b)

-- ---- results

-- nothing is changed but a register and the scratch registers
pub record KeepsBeside (rd : ℕ) (s t : State) : Type 0 where
  pub registers : KeepsBut (λ k. (k == rd) || is_scratch k) s t
  pub memory : t.memory ≡ s.memory

-- a register gets a number of which something holds, and nothing else is changed but the scratch registers
pub record Makes (rd : ℕ) (Is : ℕ → Type 0) (s t : State) : Type 0 where
  pub given : Is (t.registers rd)
  pub keeps : KeepsBeside rd s t

-- a number is the value that an operator has on two words, if it has one
abbrev pub IsValue : Op2 → Width → ℕ → ℕ → ℕ → Type 0
IsValue op w a b n = (v : ℕ) → value2 op w a b ≡ Some v → n ≡ v

-- it is 1 where a comparison holds of two words, and else 0
abbrev pub Tells01 : Cmp → Width → ℕ → ℕ → ℕ → Type 0
Tells01 c w a b n = n ≡ (if holds c w a b then 1 else 0)

-- what was made for a destination is put there
abbrev pub Finishes : Destination → Code → ℕ → ℕ → Type 0
Finishes to x =
    Runs 0 4 (CanPut x.at to) (λ t u. (s : State) → KeepsBeside (target_of to) s t → PutsTo x.at to (t.registers (target_of to)) s u) x
