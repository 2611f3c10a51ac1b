-- Two operands are brought, the first into register 5 and the second into register 7.
use Rattle.std.proofs.Common.{ℕ, refl, ◌∙◌, arith, List}
use Rattle.rv_asm.specs.Appending.{Then}
use Rattle.rv_asm.specs.Parts.{Code}
use Rattle.rv_asm.specs.declared.part.Meaning.{Meaning}
use Rattle.rv_table.specs.Machine.{State}
use Rattle.cmm_effects.proofs.Shared.{keeps_then, leads_then, leads_weaker, runs_of}
use Rattle.cmm_effects.specs.Changes.{Keeps}
use Rattle.cmm_select.proofs.Keeping.{brings_keeps, operand_as_before, still_brought}
use Rattle.cmm_select.specs.Operands.{Brings, BringsBoth, BringsOperand, CanBringBoth, HasBoth, IsOperand, most_for, operand_at}
use Rattle.cmm_select.specs.declared.operand.Operand.{Operand}

module _ (x : Code) (labels : List Meaning) (left right : Operand) (is : IsOperand labels right) where
  has : (s t u : State) → Brings 5 (operand_at x.at left s) s t → Brings 7 (operand_at x.at right t) t u → HasBoth x.at left right s u
  has s t u first second =
      let one : Keeps s t = brings_keeps 5 (operand_at x.at left s) s t refl first in
      let two : Keeps t u = brings_keeps 7 (operand_at x.at right t) t u refl second in
      record {
        first = second.others 5 refl ∙ first.given;
        second = second.given ∙ operand_as_before labels x.at right s t is one;
        keeps = keeps_then s t u one two;
      }

  pub brings_both : (from to : ℕ) → Then (BringsOperand left 5) (BringsOperand right 7) x from to → BringsBoth left right x from to
  brings_both from to does =
      leads_weaker
      (leads_then
      (leads_weaker {R = CanBringBoth left right} {S = λ s t. Brings 5 (operand_at x.at left s) s t} {b = most_for left} does.1 (omega arith) (λ s sound can. can.brings_left) (λ s t sound can brings. brings))
      (runs_of does.2)
      (λ s t sound also can brings. still_brought right x.map s t (brings_keeps 5 (operand_at x.at left s) s t refl brings) can.brings_right))
      (omega arith) (λ s sound can. can)
      (λ s u sound can both. has s both.0 u both.1 both.2)
