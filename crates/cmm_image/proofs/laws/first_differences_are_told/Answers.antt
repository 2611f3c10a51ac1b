use Rattle.cmm_image.proofs.DifferenceLaws.{differences_are_live, first_differences_are_one, one_place_or_difference}
use Rattle.cmm_image.proofs.OffsetLaws.{places_stand_there}
use Rattle.cmm_image.proofs.laws.first_differences_are_told.Goals as goal

pub returns : goal.returns
returns c = record { told = one_place_or_difference; one = first_differences_are_one; live = differences_are_live; there = places_stand_there }
