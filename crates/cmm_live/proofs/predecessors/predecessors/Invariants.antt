use Rattle.cmm_live.proofs.Edges.{AreFirstEdges}
use Rattle.cmm_live.proofs.predecessors.predecessors.Given as goal

abbrev pub invariant-loop-from : goal.invariant-loop-from
invariant-loop-from l = AreFirstEdges l.g l.from l.lists.items
