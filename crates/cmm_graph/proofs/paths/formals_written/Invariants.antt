use Rattle.std.proofs.Common.{◌≡◌, take}
use Rattle.std.specs.List.{flat_map}
use Rattle.cmm_graph.specs.Paths.{written_by_variable}
use Rattle.cmm_graph.proofs.paths.formals_written.Given as goal

-- the formals so far
abbrev pub invariant-loop-formal : goal.invariant-loop-formal
invariant-loop-formal l = l.locals ≡ flat_map written_by_variable (take l.formal-index l.formals)
