use Rattle.std.proofs.Common.{◌+◌, arith}
use Rattle.cmm_effects.proofs.Shared.{adds_then, adds_weaker, by_last, leads_weaker}
use Rattle.cmm_select.proofs.Putting.{assigns_in_place}
use Rattle.cmm_select.specs.Operators.{shifts_of}
use Rattle.cmm_select.proofs.assigning.assign_plain.Goals as goal

pub returns-clause-assigns : goal.returns-clause-assigns
returns-clause-assigns c =
    by_last c.finish.result c.finish.ensures.finishes
    (λ h.
    let w = c.args.width in
    adds_weaker (adds_then c.in_ok-from.ensures.locates (adds_then c.in_ok-plain.ensures.operates h)) (omega arith)
    (λ x from end does. leads_weaker
    (assigns_in_place x c.args.to.now from end w c.args.left.now c.args.right.now (1 + shifts_of w) c.args.operator c.target.result c.in_ok-from.from.first c.in_ok-from.from.second c.target.ensures.is does)
    (omega arith) (λ s sound can. can) (λ s t sound can assigned. assigned)))
