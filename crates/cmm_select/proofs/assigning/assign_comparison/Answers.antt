use Rattle.std.proofs.Common.{◌∙◌, sym, arith}
use Rattle.cmm_effects.proofs.Shared.{adds_then, adds_weaker, by_last, leads_weaker}
use Rattle.cmm_select.proofs.Putting.{assigns_comparison}
use Rattle.cmm_select.proofs.SmallComparisons.{brought_by_four, compared_is}
use Rattle.cmm_select.proofs.assigning.assign_comparison.Goals as goal

pub returns-clause-assigns : goal.returns-clause-assigns
returns-clause-assigns c =
    by_last c.finish.result c.finish.ensures.finishes
    (λ h.
    adds_weaker (adds_then c.in_ok-from.ensures.readies (adds_then c.in_ok-compare.ensures.tells h)) (omega arith)
    (λ x from end does. leads_weaker
    (assigns_comparison x c.args.to.now from end c.args.width c.args.left.now c.args.right.now 3 c.args.comparison c.target.result c.in_ok-from.from.first c.in_ok-from.from.second c.target.ensures.is does)
    (omega arith) (λ s sound can. can) (λ s t sound can puts. puts)))

pub assign_small_comparison-requires-clause-small : goal.assign_small_comparison-requires-clause-small
assign_small_comparison-requires-clause-small c = (compared_is c.args.width c.args.right.now c.in-Some.number (sym c.compared.ensures ∙ c.in-Some.is)).1

pub returns-in-Some-clause-assigns : goal.returns-in-Some-clause-assigns
returns-in-Some-clause-assigns c =
    by_last c.assign_small_comparison.result c.assign_small_comparison.ensures.assigns
    (λ h.
    let is = compared_is c.args.width c.args.right.now c.in-Some.number (sym c.compared.ensures ∙ c.in-Some.is) in
    rw is.0
    (adds_weaker h (omega (arith, brought_by_four c.in-Some.number))
    (λ x from end assigns. leads_weaker assigns (omega (arith, brought_by_four c.in-Some.number)) (λ s sound can. can) (λ s t sound can assigned. assigned))))
