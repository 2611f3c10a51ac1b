use Rattle.std.proofs.Common.{take}
use Rattle.std.specs.List.{AllZip}
use Rattle.cmm_live.specs.Exact.{AreLiveSets}
use Rattle.cmm_live.proofs.live_sets.liveness_of_all.Given as goal

abbrev pub invariant-loop-graph : goal.invariant-loop-graph
invariant-loop-graph l = AllZip AreLiveSets (take l.graph-index l.graphs) l.found
