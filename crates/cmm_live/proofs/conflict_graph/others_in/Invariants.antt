use Rattle.std.proofs.Common.{take}
use Rattle.cmm_live.proofs.Pairing.{AreFound}
use Rattle.cmm_live.proofs.conflict_graph.others_in.Given as goal

abbrev pub invariant-loop-other : goal.invariant-loop-other
invariant-loop-other l = AreFound l.class l.number (take l.other-index l.other-items) l.others.items
