use Rattle.std.proofs.Common.{List, get_or, ◌∙◌, ap}
use Rattle.cmm_graph.specs.declared.node.Node.{Node}
use Rattle.cmm_live.proofs.Turns.{Turn, turn_count, turn_stayed, turn_within, turn_grew, turn_measure, settled}
use Rattle.cmm_live.proofs.fixed_point.settle.Goals.{In_ok-visit}
use Rattle.cmm_live.proofs.fixed_point.settle.Goals as goal

turn : (c : In_ok-visit) → Turn c.args.g.now c.loop-index.list.nodes.items c.next.new.self.nodes.items c.loop-index.list.waits.items c.next.new.self.waits.items
    c.loop-index.before.items c.visit.new.before.items c.in-Some.index c.index-nodes-index.result c.in_ok-visit.field-0
turn c = record {
  growing = c.loop-index.invariant.growing;
  count = c.loop-index.invariant.count;
  low = c.in-Some.ensures.next.0;
  taken = c.in-Some.ensures.next.1;
  flag = c.in-Some.ensures.next.2;
  node_is = c.index-nodes-index.is ∙ ap (λ (ns : List Node). get_or ns c.in-Some.index c.index-nodes-index.result) c.as_slice-nodes.ensures;
  visit = c.in_ok-visit.ensures;
}

pub add_all-requires-clause-within : goal.add_all-requires-clause-within
add_all-requires-clause-within c =
    rw c.as_slice.ensures (turn_within (turn (goal.at.add_all-requires-clause-within c).In_ok-visit) c.args.predecessors.now c.requires.edges
    c.index-predecessors-index.result c.index-predecessors-index.is)

pub loop-index-smaller-in-Continue-branch-2 : goal.loop-index-smaller-in-Continue-branch-2
loop-index-smaller-in-Continue-branch-2 c =
    turn_measure (turn (goal.at.loop-index-smaller-in-Continue-branch-2 c).In_ok-visit) c.args.predecessors.now c.requires.edges
    c.index-predecessors-index.result c.index-predecessors-index.is c.add_all.new.self.nodes.items c.if-branch.true
    (rw c.as_slice.ensures at c.in_ok-add_all.ensures.bound)

pub loop-index-preserved-in-Continue-branch-2 : goal.loop-index-preserved-in-Continue-branch-2
loop-index-preserved-in-Continue-branch-2 c =
    let t = turn (goal.at.loop-index-preserved-in-Continue-branch-2 c).In_ok-visit in
    record {
      list = c.in_ok-add_all.ensures.list;
      count = c.in_ok-add_all.ensures.woken.size ∙ turn_count t;
      growing = turn_grew t c.args.predecessors.now c.requires.edges c.index-predecessors-index.result c.index-predecessors-index.is
          c.add_all.new.self.waits.items (rw c.as_slice.ensures at c.in_ok-add_all.ensures.woken);
    }

pub loop-index-preserved : goal.loop-index-preserved
loop-index-preserved c =
    let t = turn (goal.at.loop-index-preserved c).In_ok-visit in
    record { list = c.in-Some.ensures.list; count = turn_count t; growing = turn_stayed t c.if-branch.false }

pub returns : goal.returns
returns c = settled c.args.g.now c.loop-index.list.nodes.items c.loop-index.list.waits.items c.loop-index.before.items c.loop-index.invariant.growing
    c.loop-index.invariant.list c.in_default.ensures.next.0
