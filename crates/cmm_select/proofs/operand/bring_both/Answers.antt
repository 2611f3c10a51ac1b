use Rattle.std.proofs.Common.{arith}
use Rattle.cmm_effects.proofs.Shared.{adds_then, adds_weaker, by_last}
use Rattle.cmm_select.proofs.Both.{brings_both}
use Rattle.cmm_select.proofs.operand.bring_both.Goals as goal

pub returns-clause-brings : goal.returns-clause-brings
returns-clause-brings c =
    by_last c.bring_operand-2.result c.bring_operand-2.ensures.brings
    (λ h.
    adds_weaker (adds_then c.in_ok-bring_operand.ensures.brings h) (omega arith)
    (λ x from to does. brings_both x c.args.asm.now.labels c.args.left.now c.args.right.now c.requires.right from to does))
