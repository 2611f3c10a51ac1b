-- What is found of units by the rules that are tested unit by unit.
use Rattle.std.specs.Prelude.{◌≡◌, List, [], Some, None}
use Rattle.cmm_static_semantics.specs.Linking.{Program}
use Rattle.cmm_static_semantics.specs.Spots.{first_by}
use Rattle.cmm_static_semantics.specs.Faults.{stands_before}
use Rattle.cmm_check_units.specs.inside.Flat.{Flat, flats_broken}
use Rattle.cmm_check_units.specs.inside.Units.{AreEarlier, broken_placed}
use Rattle.cmm_check_units.specs.declared.checking.Found.{Found}
use Rattle.cmm_check_units.specs.declared.checking.Found.TheVariants.{Broken, Unbroken}

-- the first that is broken, or, where none is, what is known of all units
abbrev pub IsFound : Program → List Flat → Found → Type 0
IsFound program fs (Broken b) = first_by stands_before None (flats_broken program [] 0 fs) ≡ Some (broken_placed b)
IsFound program fs (Unbroken e) = (first_by stands_before None (flats_broken program [] 0 fs) ≡ None) × AreEarlier program e fs
