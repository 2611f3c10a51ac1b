use Rattle.cmm_digraph.proofs.Counting.{below_index}
use Rattle.cmm_digraph.proofs.Joining.{closed_next}
use Rattle.cmm_digraph.proofs.components.close.Goals as goal

pub loop-node-preserved : goal.loop-node-preserved
loop-node-preserved c =
    closed_next c.args.nodes.now c.loop-node.node-index c.loop-node-test.true c.args.states.now.items c.loop-node.states.items
    (below_index _ c.args.nodes.now c.loop-node.node-index c.requires c.loop-node-test.true) c.loop-node.invariant
