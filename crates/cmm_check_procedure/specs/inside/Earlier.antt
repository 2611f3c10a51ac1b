-- The extents of earlier ranges as a set that meets the same.
use Rattle.std.specs.Prelude.{◌≡◌, List, [], ◌∷◌, Option, Some, None}
use Rattle.cmm_static_semantics.specs.Switches.{Extent}
use Rattle.cmm_check_procedure.specs.declared.extents.Extents.{Extents}
use Rattle.cmm_check_procedure.specs.Extents.{extents_of, meets_none_of}

-- those of ranges that are not broken
abbrev pub unbroken : List (Option Extent) → List Extent
unbroken [] = []
unbroken (Some e ∷ es) = e ∷ unbroken es
unbroken (None ∷ es) = unbroken es

abbrev pub AreEarlier : Extents → List (Option Extent) → Type 0
AreEarlier s earlier = (x : Extent) → meets_none_of (extents_of s) x ≡ meets_none_of (unbroken earlier) x
