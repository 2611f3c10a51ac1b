use Rattle.std.proofs.Common.{◌≡◌, ◌++◌, map, drop}
use Rattle.cmm_static_semantics.specs.Declarations.{units_from, named_units}
use Rattle.cmm_check_units.specs.inside.Flat.{flat_unit}
use Rattle.cmm_check_units.specs.inside.Units.{unit_flat}
use Rattle.cmm_check_units.proofs.checking.names_of_all.Given as goal

-- the units that are laid flat, and then the rest, are all
abbrev pub invariant-loop-unit : goal.invariant-loop-unit
invariant-loop-unit l =
    map unit_flat l.named ++ map flat_unit (units_from l.numbers.procedures l.numbers.labels (drop l.unit-index l.units)) ≡ map flat_unit (named_units l.units)
