use Rattle.std.proofs.Common.{arith}
use Rattle.cmm_words.specs.Words.{value1}
use Rattle.cmm_effects.proofs.Shared.{adds_then, adds_weaker, by_last, leads_weaker}
use Rattle.cmm_select.proofs.Putting.{assigns_one}
use Rattle.cmm_select.proofs.assigning.assign_unary.Goals as goal

pub returns-clause-assigns : goal.returns-clause-assigns
returns-clause-assigns c =
    by_last c.finish.result c.finish.ensures.finishes
    (λ h.
    let w = c.args.width in
    adds_weaker (adds_then c.in_ok-source.ensures.locates (adds_then c.in_ok-operate_on_one.ensures.operates h)) (omega arith)
    (λ x from end does. leads_weaker
    (assigns_one x c.args.to.now from end w (value1 c.args.operator w) c.args.operand.now c.target.result c.in_ok-source.source c.target.ensures.is does)
    (omega arith) (λ s sound can. can) (λ s t sound can puts. puts)))
