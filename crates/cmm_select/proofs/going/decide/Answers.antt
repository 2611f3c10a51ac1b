use Rattle.std.proofs.Common.{arith}
use Rattle.cmm_effects.proofs.Shared.{adds_then, adds_weaker, by_last, turns_weaker}
use Rattle.cmm_select.proofs.Turning.{decides}
use Rattle.cmm_select.proofs.going.decide.Goals as goal

pub returns-clause-decides : goal.returns-clause-decides
returns-clause-decides c =
    by_last c.branch-asm.result c.branch-asm.ensures.branches
    (λ h.
    adds_weaker (adds_then c.in_ok-from.ensures.readies h) (omega arith)
    (λ x from end does. turns_weaker
    (decides x c.args.comparison c.args.width c.args.left.now c.args.right.now c.args.to c.in_ok-from.from.first c.in_ok-from.from.second from end does)
    (omega arith) (λ s sound can. can) (λ s t can keeps. keeps)))
