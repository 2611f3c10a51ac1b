use Rattle.std.proofs.Common.{◌≡◌, arith}
use Rattle.cmm_effects.proofs.Shared.{adds_then, adds_weaker, by_last, leads_weaker}
use Rattle.cmm_select.proofs.Putting.{extends_low, extends_one}
use Rattle.cmm_select.proofs.Widths.{two_shifts}
use Rattle.cmm_select.specs.Operators.{shifts_of}
use Rattle.cmm_select.proofs.assigning.assign_extended.Goals as goal

pub returns-in-W64-clause-assigns : goal.returns-in-W64-clause-assigns
returns-in-W64-clause-assigns c =
    by_last c.assign_low.result c.assign_low.ensures.assigns
    (λ h.
    let assigns = rw c.in-W64.is at h in
    rw c.in-W64.is
    (adds_weaker assigns (omega arith)
    (λ x from end low. leads_weaker (extends_low x c.args.to.now from end c.args.width c.args.operand.now low) (omega arith) (λ s sound can. can) (λ s t sound can puts. puts))))

pub returns-in_ok-narrow-in_default-clause-assigns : goal.returns-in_ok-narrow-in_default-clause-assigns
returns-in_ok-narrow-in_default-clause-assigns c =
    by_last c.finish.result c.finish.ensures.finishes
    (λ h.
    let v = c.args.from in
    let w = c.args.width in
    let two : shifts_of v ≡ 2 = two_shifts v c.in_default.not-W64 in
    adds_weaker
    (adds_then c.in_ok-source-in_default.ensures.locates (adds_then c.in_ok-sign-in_default.ensures.extends (adds_then c.in_ok-narrow-in_default.ensures.narrows h)))
    (omega (arith, two))
    (λ x from end does. leads_weaker
    (extends_one x c.args.to.now from end v w c.args.operand.now c.target-rd.result c.in_ok-source-in_default.source c.target-rd.ensures.is does)
    (omega (arith, two)) (λ s sound can. can) (λ s t sound can puts. puts)))
