use Rattle.std.proofs.Common.{◌≡◌, take}
use Rattle.cmm_graph.specs.Paths.{landings}
use Rattle.cmm_live.proofs.sites.landings.Given as goal

abbrev pub invariant-loop-continuation : goal.invariant-loop-continuation
invariant-loop-continuation l = l.nodes ≡ landings l.g (take l.continuation-index l.continuations)
