use Rattle.std.proofs.Common.{◌≡◌, ◌++◌, take}
use Rattle.cmm_graph.specs.Paths.{landings}
use Rattle.cmm_graph.proofs.graph.Graph.push_landings.Given as goal

-- the landings of the continuations so far were added
abbrev pub invariant-loop-continuation : goal.invariant-loop-continuation
invariant-loop-continuation l = l.to ≡ l.initial.to ++ landings l.self (take l.continuation-index l.continuations)
