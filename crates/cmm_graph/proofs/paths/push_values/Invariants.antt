use Rattle.std.proofs.Common.{◌≡◌, ◌++◌, take}
use Rattle.cmm_graph.specs.Paths.{values_of}
use Rattle.cmm_graph.proofs.paths.push_values.Given as goal

-- the values of the arguments so far were added
abbrev pub invariant-loop-argument : goal.invariant-loop-argument
invariant-loop-argument l = l.to ≡ l.initial.to ++ values_of (take l.argument-index l.arguments)
