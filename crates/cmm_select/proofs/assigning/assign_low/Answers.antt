use Rattle.std.proofs.Common.{◌≡◌, arith}
use Rattle.cmm_effects.proofs.Shared.{adds_then, adds_weaker, by_last, leads_weaker}
use Rattle.cmm_select.proofs.Putting.{cuts_one, copies_low}
use Rattle.cmm_select.proofs.Widths.{two_shifts}
use Rattle.cmm_select.specs.Operators.{shifts_of}
use Rattle.cmm_select.proofs.assigning.assign_low.Goals as goal

pub returns-in-W64-clause-assigns : goal.returns-in-W64-clause-assigns
returns-in-W64-clause-assigns c =
    by_last c.assign_copy.result c.assign_copy.ensures.copies
    (λ h.
    rw c.in-W64.is
    (adds_weaker h (omega arith)
    (λ x from end copies. leads_weaker (copies_low x c.args.to.now from end c.args.from c.args.operand.now copies) (omega arith) (λ s sound can. can) (λ s t sound can puts. puts))))

pub returns-in_ok-cut-in_default-clause-assigns : goal.returns-in_ok-cut-in_default-clause-assigns
returns-in_ok-cut-in_default-clause-assigns c =
    by_last c.finish.result c.finish.ensures.finishes
    (λ h.
    let v = c.args.from in
    let w = c.args.width in
    let two : shifts_of w ≡ 2 = two_shifts w c.in_default.not-W64 in
    adds_weaker (adds_then c.in_ok-source-in_default.ensures.locates (adds_then c.in_ok-cut-in_default.ensures.cuts h)) (omega (arith, two))
    (λ x from end does. leads_weaker
    (cuts_one x c.args.to.now from end v w c.args.operand.now c.target.result c.in_ok-source-in_default.source c.target.ensures.is does)
    (omega (arith, two)) (λ s sound can. can) (λ s t sound can puts. puts)))
