use Rattle.cmm_flow.proofs.Assignments.{addresses_stay, addresses_cons}
use Rattle.cmm_flow.proofs.Begins.{addresses_begin, on_step, the_step}
use Rattle.cmm_flow.proofs.Laying.{lays_after}
use Rattle.cmm_flow.proofs.NodeLists.{addresses_more}
use Rattle.cmm_flow.proofs.builder.Builder.+addresses.Goals as goal

pub returns-in_ok-behind-in-Some : goal.returns-in_ok-behind-in-Some
returns-in_ok-behind-in-Some t c =
    let rest = c.in-Some.rest.now in let next = c.in_ok-following-in-Some.field-0 in let behind = c.in_ok-behind-in-Some.behind in
    lays_after _ _ _ _ _ _ _ _ c.address.result c.in_ok-behind-in-Some.ensures (λ nodes more. addresses_stay nodes more rest next behind c.args.next) c.address.ensures
    (addresses_more c.in-Some.ensures.cases.0 c.in_ok-following-in-Some.ensures)
    (λ g is steps normal. on_step g behind (addresses_begin g rest next behind c.args.next is (the_step g c.args.next steps)))
    (λ n nodes more first. addresses_cons nodes c.args.to.now rest c.in-Some.first.now c.args.base next n behind c.args.next c.in-Some.ensures.cases.0
    c.in_ok-following-in-Some.ensures more first)
