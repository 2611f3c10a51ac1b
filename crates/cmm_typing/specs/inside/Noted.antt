-- The first fault of some and of those of each item of a list.
use Rattle.std.specs.Prelude.{List, flat_map, Option}
use Rattle.cmm_static_semantics.specs.declared.spot.Spot.{Spot}
use Rattle.cmm_static_semantics.specs.Spots.{first_of}

unfoldable pub noted_in : {A : Type 0} → (A → List Spot) → Option Spot → List A → Option Spot
noted_in spots best items = first_of best (flat_map spots items)
