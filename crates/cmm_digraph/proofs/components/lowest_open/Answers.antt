use Rattle.std.proofs.Common.{◌+◌, take, sym, subst}
use Rattle.cmm_digraph.specs.inside.Components.{IsLowest}
use Rattle.cmm_digraph.proofs.Joining.{lowest_next}
use Rattle.cmm_digraph.proofs.components.lowest_open.Goals as goal

pub loop-node-preserved : goal.loop-node-preserved
loop-node-preserved c =
    let nodes = c.args.nodes.now in
    let k = c.loop-node.node-index in
    let states = c.args.states.now in
    subst (λ (o : _). IsLowest (take (k + 1) nodes) states o) (sym c.lower-lowest.ensures) (lowest_next nodes k c.loop-node-test.true states c.loop-node.lowest c.loop-node.invariant)
