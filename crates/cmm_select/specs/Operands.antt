-- Operands of nodes, in code whose labels stand for these numbers.
use Rattle.std.specs.Prelude.{◌≡◌, ℕ, ◌+◌, ◌^◌, ◌==◌, ◌||◌, nat_le, true, false, List}
use Rattle.cmm_abi.specs.declared.registers.TheConstants.{FIRST_SCRATCH, HELPER, SECOND_SCRATCH}
use Rattle.cmm_words.specs.Widths.{IsWord}
use Rattle.cmm_words.specs.declared.width.Width.{Width}
use Rattle.rv_asm.specs.Assembly.{IsLabel}
use Rattle.rv_asm.specs.Parts.{Code}
use Rattle.rv_asm.specs.declared.part.Meaning.{Meaning}
use Rattle.rv_table.specs.Machine.{MemoryMap, State}
use Rattle.rv_table.specs.Words.{sum}
use Rattle.cmm_effects.specs.Changes.{Keeps, KeepsBut}
use Rattle.cmm_effects.specs.Pieces.{Leads}
use Rattle.cmm_select.specs.Sources.{CanBring, IsSource, brought}
use Rattle.cmm_select.specs.declared.operand.Operand.{Operand}
use Rattle.cmm_select.specs.declared.operand.Operand.TheVariants.{Held, Symbol}
use Rattle.cmm_select.specs.declared.source.Source.{Source}
use Rattle.cmm_select.specs.declared.source.Source.TheVariants.{Place, Number, Address}

-- a label that is named is one that was made
abbrev pub IsOperand : List Meaning → Operand → Type 0
IsOperand labels (Held from) = IsSource from
IsOperand labels (Symbol l plus) = IsLabel labels l

-- the operand
abbrev pub operand_at : (ℕ → ℕ) → Operand → State → ℕ
operand_at at (Held from) s = brought from s
operand_at at (Symbol l plus) s = sum (at l.number) plus

-- instructions bring it
abbrev pub CanBringOperand : Operand → MemoryMap → State → Type 0
CanBringOperand (Held from) m s = CanBring from m s
CanBringOperand (Symbol l plus) m s = Unit {0}

-- ---- how many instructions bring it at most

abbrev pub most_for_number : ℕ → ℕ
most_for_number n = elim (nat_le n (2 ^ 40)) [ true ↦ 4 | false ↦ 8 ]

abbrev pub most_for_source : Source → ℕ
most_for_source (Place p) = 4
most_for_source (Number n) = most_for_number n
most_for_source (Address o) = 4

abbrev pub most_for : Operand → ℕ
most_for (Held from) = most_for_source from
most_for (Symbol l plus) = 11

-- ---- one operand, or two

-- a register gets a number, register 6 any, and nothing else is changed
pub record Brings (rd number : ℕ) (s t : State) : Type 0 where
  pub given : t.registers rd ≡ number
  pub others : KeepsBut (λ r. (r == rd) || (r == HELPER)) s t
  pub memory : t.memory ≡ s.memory

-- an operand is brought into a register
abbrev pub BringsOperand : Operand → ℕ → Code → ℕ → ℕ → Type 0
BringsOperand a rd x = Leads (most_for a) (CanBringOperand a) (λ s t. Brings rd (operand_at x.at a s) s t) x

-- instructions bring two operands
pub record CanBringBoth (left right : Operand) (m : MemoryMap) (s : State) : Type 0 where
  pub brings_left : CanBringOperand left m s
  pub brings_right : CanBringOperand right m s

-- register 5 gets the first and register 7 the second, and nothing but registers 5 to 7 is changed
pub record HasBoth (at : ℕ → ℕ) (left right : Operand) (s t : State) : Type 0 where
  pub first : t.registers FIRST_SCRATCH ≡ operand_at at left s
  pub second : t.registers SECOND_SCRATCH ≡ operand_at at right s
  pub keeps : Keeps s t

abbrev pub BringsBoth : Operand → Operand → Code → ℕ → ℕ → Type 0
BringsBoth left right x = Leads (most_for left + most_for right) (CanBringBoth left right) (HasBoth x.at left right) x

-- two operands are words of a width
abbrev pub AreWords : (ℕ → ℕ) → Width → Operand → Operand → State → Type 0
AreWords at w left right s = IsWord w (operand_at at left s) × IsWord w (operand_at at right s)
