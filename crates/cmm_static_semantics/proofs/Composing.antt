-- The first of faults, one list after the other.
use Rattle.std.proofs.Common.{◌≡◌, refl, List, [], ◌∷◌, Option, Some}
use Rattle.cmm_static_semantics.specs.declared.spot.Spot.{Spot}
use Rattle.cmm_static_semantics.specs.Spots.{first_of, sooner}
use Rattle.cmm_static_semantics.specs.Laws.{FirstOfMore}

pub first_of_more : FirstOfMore
first_of_more best [] more = refl
first_of_more best (s ∷ some) more = first_of_more (sooner best (Some s)) some more
