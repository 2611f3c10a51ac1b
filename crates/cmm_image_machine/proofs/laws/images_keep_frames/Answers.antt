use Rattle.cmm_image_machine.proofs.StackRead.{images_keep_frames}
use Rattle.cmm_image_machine.proofs.laws.images_keep_frames.Goals as goal

pub returns : goal.returns
returns c = images_keep_frames
