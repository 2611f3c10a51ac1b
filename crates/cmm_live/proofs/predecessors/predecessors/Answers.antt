use Rattle.std.proofs.Common.{List, ◌<◌, ◌≤◌, length, get_or, ◌∙◌, ap, subst, arith}
use Rattle.cmm_graph.specs.declared.number.NodeId.{NodeId}
use Rattle.cmm_graph.specs.declared.node.Node.{Node}
use Rattle.cmm_live.specs.inside.Edges.{AddsTo}
use Rattle.cmm_live.proofs.Edges.{edges_more, edges_all}
use Rattle.cmm_live.proofs.predecessors.predecessors.Goals as goal

pub loop-from-preserved : goal.loop-from-preserved
loop-from-preserved c =
    let slice = c.as_slice-node-items.ensures in
    let from = c.loop-from.from in
    let low : from < length c.args.g.now.nodes = omega (arith, c.loop-from-test.true, ap length slice) in
    edges_more c.args.g.now c.loop-from.lists.items c.add_to.new.lists.items from c.node-item.result low
    (c.node-item.is ∙ ap (λ (ns : List Node). get_or ns from c.node-item.result) slice) c.loop-from.invariant
    (subst (λ (ns : List NodeId). AddsTo c.loop-from.lists.items c.add_to.new.lists.items ns from)
    (c.as_slice.ensures ∙ c.in_ok-to.ensures) c.in_ok-add_to.ensures)

pub returns : goal.returns
returns c =
    let past : length c.args.g.now.nodes ≤ c.loop-from.from = omega (arith, c.loop-from-test.false, ap length c.as_slice-node-items.ensures) in
    edges_all c.args.g.now c.loop-from.lists.items c.loop-from.from past c.loop-from.invariant
