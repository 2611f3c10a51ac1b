use Rattle.std.proofs.Common.{◌≡◌, take}
use Rattle.std.specs.List.{flat_map}
use Rattle.cmm_graph.specs.Paths.{written_to}
use Rattle.cmm_graph.proofs.paths.written_to_all.Given as goal

-- the variables among the targets so far
abbrev pub invariant-loop-target : goal.invariant-loop-target
invariant-loop-target l = l.locals ≡ flat_map written_to (take l.target-index l.targets)
