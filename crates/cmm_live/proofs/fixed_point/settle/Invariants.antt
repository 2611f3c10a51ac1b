use Rattle.std.proofs.Common.{◌≡◌, ◌+◌, ◌*◌, length}
use Rattle.cmm_live.specs.inside.Closing.{AreGrowing, missing, edge_count}
use Rattle.cmm_live.specs.inside.Worklists.{IsList}
use Rattle.cmm_live.proofs.fixed_point.settle.Given as goal

abbrev pub invariant-loop-index : goal.invariant-loop-index
invariant-loop-index l = record {
  list : IsList l.list.nodes.items l.list.waits.items;
  count : length l.list.waits.items ≡ length l.g.nodes;
  growing : AreGrowing l.g l.before.items l.list.waits.items;
}

-- each visit takes a node off the list; where it puts some on, a set has grown
abbrev pub decreases-loop-index : goal.decreases-loop-index
decreases-loop-index l = missing l.before.items * (edge_count l.predecessors + 1) + length l.list.nodes.items
