use Rattle.std.proofs.Common.{take}
use Rattle.cmm_live.specs.inside.Interfering.{JoinedTo}
use Rattle.cmm_live.proofs.conflict_graph.join_to.Given as goal

abbrev pub invariant-loop-other : goal.invariant-loop-other
invariant-loop-other l = JoinedTo l.number (take l.other-index l.others) l.fn.conflicts l.conflicts
