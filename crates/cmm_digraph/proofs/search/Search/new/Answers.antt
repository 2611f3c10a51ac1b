use Rattle.std.proofs.Common.{◌≡◌, length, reverse, ap, arith}
use Rattle.std.proofs.lemmas.Grind.{common_steps}
use Rattle.cmm_digraph.proofs.Beginning.{entered_to, entered_next, search_first}
use Rattle.cmm_digraph.proofs.search.Search.new.Goals as goal

pub loop-node-init : goal.loop-node-init
unfolding entered_to
loop-node-init c = (c.new-states.ensures.items, ap reverse c.new-steps.ensures.items, c.new-cyclic.ensures.items)

pub loop-node-preserved : goal.loop-node-preserved
loop-node-preserved c = (
  grind (arith, common_steps, c.in_ok-push.ensures.items, c.loop-node.invariant.0),
  entered_next c.loop-node.node c.loop-node.steps.items c.push-in-loop-node.new.self.items c.in_ok-push-2.ensures.items c.loop-node.invariant.1,
  grind (arith, common_steps, c.in_ok-push-3.ensures.items, c.loop-node.invariant.2),
)

pub returns : goal.returns
returns c =
    let all : c.loop-node.node ≡ length c.args.graph.now = omega arith in
    search_first c.args.graph.now c.loop-node.node c.loop-node.states.items c.new.result.items c.new-2.result.items (reverse c.loop-node.steps.items) c.loop-node.cyclic.items
    all c.loop-node.invariant.0 c.new.ensures.items c.new-2.ensures.items c.loop-node.invariant.1 c.loop-node.invariant.2
