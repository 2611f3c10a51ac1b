use Rattle.std.proofs.Common.{◌+◌, ◌*◌, ◌∙◌, sym, arith}
use Rattle.cmm_effects.proofs.Shared.{adds_then, adds_weaker, by_last, leads_weaker}
use Rattle.cmm_select.proofs.SmallNumbers.{small_is}
use Rattle.cmm_select.proofs.SmallRotations.{turns_is}
use Rattle.cmm_select.proofs.Putting.{assigns_binary}
use Rattle.cmm_select.specs.Operators.{shifts_of}
use Rattle.cmm_select.proofs.assigning.assign_binary.Goals as goal

pub returns-clause-assigns : goal.returns-clause-assigns
returns-clause-assigns c =
    by_last c.put.result c.put.ensures.puts
    (λ h.
    let w = c.args.width in
    adds_weaker (adds_then c.in_ok-bring_both.ensures.brings (adds_then c.in_ok-operate.ensures.operates h)) (omega arith)
    (λ x from end does. leads_weaker
    (assigns_binary x c.args.to.now from end w c.args.left.now c.args.right.now (3 * shifts_of w + 6) c.args.operator does)
    (omega arith) (λ s sound can. can) (λ s t sound can assigned. assigned)))

pub returns-then-is_plain-clause-assigns : goal.returns-then-is_plain-clause-assigns
returns-then-is_plain-clause-assigns c =
    by_last c.assign_plain.result c.assign_plain.ensures.assigns
    (λ h.
    adds_weaker h (omega arith)
    (λ x from end assigns. leads_weaker assigns (omega arith) (λ s sound can. can) (λ s t sound can assigned. assigned)))

pub assign_small-requires-clause-small : goal.assign_small-requires-clause-small
assign_small-requires-clause-small c = (small_is c.args.operator c.args.right.now c.in-Some.number (sym c.small.ensures ∙ c.in-Some.is)).1

pub returns-in-Some-clause-assigns : goal.returns-in-Some-clause-assigns
returns-in-Some-clause-assigns c =
    by_last c.assign_small.result c.assign_small.ensures.assigns
    (λ h.
    let is = small_is c.args.operator c.args.right.now c.in-Some.number (sym c.small.ensures ∙ c.in-Some.is) in
    rw is.0
    (adds_weaker h (omega arith)
    (λ x from end assigns. leads_weaker assigns (omega arith) (λ s sound can. can) (λ s t sound can assigned. assigned))))

pub assign_rotated-requires-clause-rotation : goal.assign_rotated-requires-clause-rotation
assign_rotated-requires-clause-rotation c = (turns_is c.args.operator c.args.right.now c.in-Some-turns.number (sym c.turns.ensures ∙ c.in-Some-turns.is)).1

pub returns-in-Some-turns-clause-assigns : goal.returns-in-Some-turns-clause-assigns
returns-in-Some-turns-clause-assigns c =
    by_last c.assign_rotated.result c.assign_rotated.ensures.assigns
    (λ h.
    let is = turns_is c.args.operator c.args.right.now c.in-Some-turns.number (sym c.turns.ensures ∙ c.in-Some-turns.is) in
    rw is.0
    (adds_weaker h (omega arith)
    (λ x from end assigns. leads_weaker assigns (omega arith) (λ s sound can. can) (λ s t sound can assigned. assigned))))
