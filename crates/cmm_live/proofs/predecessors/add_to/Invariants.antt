use Rattle.std.proofs.Common.{take}
use Rattle.cmm_live.specs.inside.Edges.{AddsTo}
use Rattle.cmm_live.proofs.predecessors.add_to.Given as goal

abbrev pub invariant-loop-node : goal.invariant-loop-node
invariant-loop-node l = AddsTo l.fn.lists.items l.lists.items (take l.node-index l.nodes) l.from
