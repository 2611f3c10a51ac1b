use Rattle.std.proofs.Common.{◌≡◌, map}
use Rattle.cmm_check_units.specs.inside.Units.{checked_unit}
use Rattle.cmm_check_units.proofs.checking.with_senses.Given as goal

abbrev pub invariant-loop-names : goal.invariant-loop-names
invariant-loop-names l = l.units ≡ map checked_unit l.yielded
