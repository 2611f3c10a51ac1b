-- Control goes one way or another.
use Rattle.std.proofs.Common.{ℕ, ◌+◌, ◌*◌, refl, ap, arith, pos}
use Rattle.std.specs.Prelude.{Bool}
use Rattle.cmm_words.specs.Words.{holds}
use Rattle.cmm_words.specs.declared.operators.Cmp.{Cmp}
use Rattle.cmm_words.specs.declared.width.Width.{Width}
use Rattle.rv_asm.specs.Appending.{Then}
use Rattle.rv_asm.specs.Parts.{Code, way}
use Rattle.rv_asm.specs.declared.part.Label.{Label}
use Rattle.rv_table.specs.Words.{modulo, sum}
use Rattle.rv_table.specs.declared.instruction.Instr.TheVariants.{Addi}
use Rattle.cmm_effects.proofs.Shared.{keeps_then, leads_set, leads_weaker, set_keeps, turns_weaker}
use Rattle.cmm_effects.specs.Changes.{Keeps}
use Rattle.cmm_effects.specs.Pieces.{Always, Leads}
use Rattle.cmm_select.proofs.InPlace.{passes_turns}
use Rattle.cmm_select.proofs.Places.{One}
use Rattle.cmm_select.specs.Going.{Decides}
use Rattle.cmm_select.specs.Operands.{most_for, operand_at}
use Rattle.cmm_select.specs.Operators.{shifts_of}
use Rattle.cmm_select.specs.declared.operand.Operand.{Operand}
use Rattle.cmm_select.specs.inside.Comparing.{BranchesIn, ReadiesBoth}

-- one instruction that changes a scratch register alone
pub goes_on : (x : Code) (from to : ℕ) → One (Addi 5 0 (pos 0)) x from to → Leads 1 Always Keeps x from to
goes_on x from to does =
    leads_weaker (leads_set x (Addi 5 0 (pos 0)) from to 5 (λ g. sum (g 0) (modulo 64 (pos 0))) (omega arith) (λ g pc. refl) does) (omega arith)
    (λ s sound p. p) (λ s t sound p sets. set_keeps 5 (sum (s.registers 0) (modulo 64 (pos 0))) s t refl sets)

pub decides : (x : Code) (c : Cmp) (w : Width) (left right : Operand) (l : Label) (a b from to : ℕ) →
    Then (ReadiesBoth c w left right a b) (BranchesIn c a b l) x from to → Decides (most_for left + most_for right + 2 * shifts_of w + 3) c w left right l x from to
decides x c w left right l a b from to does =
    turns_weaker
    (passes_turns does.1 does.2 (λ s t sound also can readies. tt)
    (λ s. way (holds c w (operand_at x.at left s) (operand_at x.at right s)) (x.at l.number) to)
    (λ s t can readies. ap (λ (h : Bool). way h (x.at l.number) to) readies.same))
    (omega arith) (λ s sound can. can)
    (λ s u can both. keeps_then s both.0 u both.1.keeps both.2)
