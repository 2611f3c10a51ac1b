use Rattle.std.proofs.Common.{length}
use Rattle.cmm_image.proofs.second_bytes.+mask_number.Given as goal

abbrev pub decreases-mask_number : goal.decreases-mask_number
decreases-mask_number l = length l.places.now
