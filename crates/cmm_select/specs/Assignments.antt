-- What the pieces for assignments do (C-- Language Specification 2.0, the assignment statement and the table of primitive operators).
use Rattle.std.specs.Prelude.{◌≡◌, ℕ, Some, if◌then◌else◌}
use Rattle.cmm_words.specs.Widths.{IsWord}
use Rattle.cmm_words.specs.Words.{holds, value2}
use Rattle.cmm_words.specs.declared.operators.Cmp.{Cmp}
use Rattle.cmm_words.specs.declared.operators.Op2.{Op2}
use Rattle.cmm_words.specs.declared.width.Width.{Width}
use Rattle.rv_asm.specs.Parts.{Code}
use Rattle.rv_table.specs.Machine.{MemoryMap, State}
use Rattle.cmm_effects.specs.Accesses.{CanReachGlobal}
use Rattle.cmm_effects.specs.Pieces.{Leads}
use Rattle.cmm_select.specs.Destinations.{CanPut, PutsTo}
use Rattle.cmm_select.specs.Operands.{AreWords, CanBringBoth, CanBringOperand, operand_at}
use Rattle.cmm_select.specs.declared.destination.Destination.{Destination}
use Rattle.cmm_select.specs.declared.operand.Operand.{Operand}

-- ---- what is read once

-- an operand is brought, and the destination is reached
pub record CanCopy (at : ℕ → ℕ) (a : Operand) (to : Destination) (m : MemoryMap) (s : State) : Type 0 where
  pub brings : CanBringOperand a m s
  pub reaches : CanPut at to m s

abbrev pub Copies : ℕ → Operand → Destination → Code → ℕ → ℕ → Type 0
Copies most a to x = Leads most (CanCopy x.at a to) (λ s t. PutsTo x.at to (operand_at x.at a s) s t) x

-- a global register and the destination are reached
pub record CanCopyGlobal (at : ℕ → ℕ) (offset : ℕ) (to : Destination) (m : MemoryMap) (s : State) : Type 0 where
  pub reads : CanReachGlobal offset m s
  pub reaches : CanPut at to m s

-- ---- functions of one word

-- an operand is brought, it is a word of a width, and the destination is reached
pub record CanAssign (at : ℕ → ℕ) (w : Width) (a : Operand) (to : Destination) (m : MemoryMap) (s : State) : Type 0 where
  pub brings : CanBringOperand a m s
  pub word : IsWord w (operand_at at a s)
  pub reaches : CanPut at to m s

-- what a function gives for the operand is put there, and nothing else is changed but scratch registers
abbrev pub AssignsOne : ℕ → Width → (ℕ → ℕ) → Operand → Destination → Code → ℕ → ℕ → Type 0
AssignsOne most w value a to x = Leads most (CanAssign x.at w a to) (λ s t. PutsTo x.at to (value (operand_at x.at a s)) s t) x

-- ---- operators on two words

-- both operands are brought, they are words of a width, and the destination is reached
pub record CanAssignBoth (at : ℕ → ℕ) (w : Width) (left right : Operand) (to : Destination) (m : MemoryMap) (s : State) : Type 0 where
  pub brings : CanBringBoth left right m s
  pub words : AreWords at w left right s
  pub reaches : CanPut at to m s

-- the destination gets the value that the operator has on the operands, if it has one, and else some number; nothing else is changed but
-- scratch registers
pub record Assigns (at : ℕ → ℕ) (op : Op2) (w : Width) (left right : Operand) (to : Destination) (s t : State) : Type 0 where
  pub number : ℕ
  pub given : (v : ℕ) → value2 op w (operand_at at left s) (operand_at at right s) ≡ Some v → number ≡ v
  pub puts : PutsTo at to number s t

abbrev pub AssignsBinary : ℕ → Op2 → Width → Operand → Operand → Destination → Code → ℕ → ℕ → Type 0
AssignsBinary most op w left right to x = Leads most (CanAssignBoth x.at w left right to) (Assigns x.at op w left right to) x

-- it gets 1 where the comparison holds, and else 0
abbrev pub AssignsComparison : ℕ → Cmp → Width → Operand → Operand → Destination → Code → ℕ → ℕ → Type 0
AssignsComparison most c w left right to x =
    Leads most (CanAssignBoth x.at w left right to)
    (λ s t. PutsTo x.at to (if holds c w (operand_at x.at left s) (operand_at x.at right s) then 1 else 0) s t) x
