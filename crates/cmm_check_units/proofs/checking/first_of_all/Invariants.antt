use Rattle.std.proofs.Common.{◌≡◌, [], None, map, take, drop}
use Rattle.cmm_static_semantics.specs.Spots.{first_by}
use Rattle.cmm_static_semantics.specs.Faults.{stands_before}
use Rattle.cmm_check_units.specs.inside.Flat.{flats_broken}
use Rattle.cmm_check_units.specs.inside.Units.{AreEarlier, unit_flat}
use Rattle.cmm_check_units.proofs.checking.first_of_all.Given as goal

-- the units that are left break first what all do
abbrev pub invariant-loop-unit : goal.invariant-loop-unit
invariant-loop-unit l =
    (l.number ≡ l.unit-index)
    × AreEarlier l.linkage l.earlier (map unit_flat (take l.unit-index l.units))
    × (first_by stands_before None (flats_broken l.linkage (map unit_flat (take l.unit-index l.units)) l.unit-index (map unit_flat (drop l.unit-index l.units)))
    ≡ first_by stands_before None (flats_broken l.linkage [] 0 (map unit_flat l.units)))
