use Rattle.std.proofs.Common.{take}
use Rattle.cmm_live.specs.inside.Interfering.{HavePairs}
use Rattle.cmm_live.proofs.conflict_graph.pairs.Given as goal

abbrev pub invariant-loop-number : goal.invariant-loop-number
invariant-loop-number l = HavePairs l.class (take l.number l.rows) l.conflicts
