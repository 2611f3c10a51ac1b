use Rattle.std.proofs.Common.{◌≤◌, IsTrue, arith, subst}
use Rattle.std.specs.Prelude.{◌↔◌}
use Rattle.std.proofs.lemmas.List.{take_all}
use Rattle.cmm_flow.specs.inside.Temporaries.{IsLeast, names_below}
use Rattle.cmm_flow.proofs.Least.{least_more, least_of_none}
use Rattle.cmm_flow.proofs.temporaries.temporaries_of.Goals as goal

pub loop-node-init : goal.loop-node-init
loop-node-init c = least_of_none names_below

pub loop-node-preserved : goal.loop-node-preserved
loop-node-preserved c =
    least_more names_below c.args.nodes.now c.loop-node.node-index c.node-item.result c.loop-node.count c.in_ok-count_at.field-0 c.max-count.result c.loop-node-test.true
    c.loop-node.invariant (λ limit. subst (λ x. (c.in_ok-count_at.field-0 ≤ limit) ↔ IsTrue (names_below limit x)) c.node-item.is (c.in_ok-count_at.ensures limit)) c.max-count.ensures

pub returns : goal.returns
returns c =
    subst (λ xs. IsLeast names_below xs c.loop-node.count) (take_all c.loop-node.node-index c.args.nodes.now (omega (arith, c.loop-node-test.false))) c.loop-node.invariant
