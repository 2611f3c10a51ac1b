use Rattle.std.proofs.Common.{◌≡◌, map, drop}
use Rattle.cmm_check_units.specs.inside.Flat.{some_starts}
use Rattle.cmm_check_units.specs.inside.Units.{unit_flat}
use Rattle.cmm_check_units.proofs.together.some_starts.Given as goal

abbrev pub invariant-loop-unit : goal.invariant-loop-unit
invariant-loop-unit l = some_starts (map unit_flat (drop l.unit-index l.units)) ≡ some_starts (map unit_flat l.units)
