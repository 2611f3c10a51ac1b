-- Why units have no image.
use Rattle.std.specs.Prelude.{◌≡◌, ℕ, List, slice_get, Some}
use Rattle.cmm_compile.specs.Refusing.{IsRefused}
use Rattle.cmm_compile.specs.declared.fault.BuildFault.{BuildFault}
use Rattle.cmm_compile.specs.declared.fault.BuildFault.TheVariants as build_fault
use Rattle.cmm_front.specs.Refusing.{IsFaultOf}
use Rattle.cmm_work.specs.declared.ending.Ending.{Ending}
use Rattle.cmm_work.specs.declared.ending.Ending.TheVariants.{Refused, OutOfMemory}

-- why there is no image of units that have these names
abbrev pub Refuses : List (List ℕ) → BuildFault → Ending → Type 0
Refuses names (build_fault.At fault) (Refused name f) = (f ≡ fault) × (slice_get names f.unit ≡ Some name.now)
Refuses names build_fault.Memory OutOfMemory = Unit {0}
Refuses names _ _ = ⊥

-- why these units, which are in files of these names, have no image
pub record LackImage (names units : List (List ℕ)) (ending : Ending) : Type 0 where
  pub fault : BuildFault
  pub refuses : Refuses names fault ending
  pub cause : IsRefused (IsFaultOf units) fault
