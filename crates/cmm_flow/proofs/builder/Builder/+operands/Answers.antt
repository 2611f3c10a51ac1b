use Rattle.cmm_flow.proofs.Begins.{on_step, operands_begin, the_step}
use Rattle.cmm_flow.proofs.Laying.{lays_after}
use Rattle.cmm_flow.proofs.ExpressionsStay.{operands_stay}
use Rattle.cmm_flow.proofs.NodeLists.{operands_more}
use Rattle.cmm_flow.proofs.Values.{operands_cons}
use Rattle.cmm_flow.proofs.builder.Builder.+operands.Goals as goal

pub returns-in_ok-behind-in-Some : goal.returns-in_ok-behind-in-Some
returns-in_ok-behind-in-Some t c =
    let rest = c.in-Some.rest.now in let next = c.in_ok-following-in-Some.field-0 in let behind = c.in_ok-behind-in-Some.behind in
    lays_after _ _ _ _ _ _ _ _ c.operand.result c.in_ok-behind-in-Some.ensures (λ nodes more. operands_stay nodes more rest next behind c.args.next) c.operand.ensures
    (operands_more c.in-Some.ensures.cases.0 c.in_ok-following-in-Some.ensures)
    (λ g is steps normal. on_step g behind (operands_begin g rest next behind c.args.next is (the_step g c.args.next steps)))
    (λ n nodes more first. operands_cons nodes n behind c.args.next c.in-Some.ensures.cases.0 c.in_ok-following-in-Some.ensures more first)
