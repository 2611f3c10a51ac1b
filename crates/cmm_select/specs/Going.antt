-- Where control goes behind pieces of code.
use Rattle.std.specs.Prelude.{ℕ}
use Rattle.cmm_words.specs.Words.{holds}
use Rattle.cmm_words.specs.declared.operators.Cmp.{Cmp}
use Rattle.cmm_words.specs.declared.width.Width.{Width}
use Rattle.rv_asm.specs.Parts.{Code, way}
use Rattle.rv_asm.specs.declared.part.Label.{Label}
use Rattle.rv_table.specs.Machine.{MemoryMap, State}
use Rattle.cmm_effects.specs.Changes.{Keeps}
use Rattle.cmm_effects.specs.Ways.{Turns}
use Rattle.cmm_select.specs.Operands.{AreWords, CanBringBoth, operand_at}
use Rattle.cmm_select.specs.declared.operand.Operand.{Operand}

-- both operands are brought, and they are words of a width
pub record CanDecide (at : ℕ → ℕ) (w : Width) (left right : Operand) (m : MemoryMap) (s : State) : Type 0 where
  pub brings : CanBringBoth left right m s
  pub words : AreWords at w left right s

-- control goes to the label where the comparison holds of the operands, and on otherwise, and nothing is changed but scratch registers
abbrev pub Decides : ℕ → Cmp → Width → Operand → Operand → Label → Code → ℕ → ℕ → Type 0
Decides most c w left right l x from on =
    Turns most (CanDecide x.at w left right) (λ s. way (holds c w (operand_at x.at left s) (operand_at x.at right s)) (x.at l.number) on) Keeps x from
