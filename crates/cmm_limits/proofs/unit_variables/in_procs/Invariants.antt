use Rattle.std.proofs.Common.{◌≡◌, take}
use Rattle.cmm_limits.specs.Capped.{capped}
use Rattle.cmm_limits.specs.inside.OfUnits.{procs_variables}
use Rattle.cmm_limits.proofs.unit_variables.in_procs.Given as goal

abbrev pub invariant-loop-own : goal.invariant-loop-own
invariant-loop-own l = l.sum ≡ capped (procs_variables (take l.own-index l.procs))
