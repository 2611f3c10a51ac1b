use Rattle.std.proofs.Common.{◌≡◌, List, map, take}
use Rattle.cmm_static_semantics.specs.Declarations.{NamedUnit}
use Rattle.cmm_static_semantics.specs.Linking.{program_of}
use Rattle.cmm_check_units.specs.inside.Flat.{flat_unit}
use Rattle.cmm_check_units.specs.inside.Units.{unit_flat}
use Rattle.cmm_check_units.proofs.checking.linkage_of_all.Given as goal

abbrev pub invariant-loop-unit : goal.invariant-loop-unit
invariant-loop-unit l = (us : List NamedUnit) → map unit_flat l.units ≡ map flat_unit us → l.gathered ≡ program_of (take l.unit-index us)
