use Rattle.cmm_image.proofs.MeaningLaws.{each_means_one_thing, images_are_one, no_image_has_a_fault}
use Rattle.cmm_image.proofs.laws.bytes_mean_one_thing.Goals as goal

pub returns : goal.returns
returns c = record { each = each_means_one_thing; one = images_are_one; never_both = no_image_has_a_fault }
