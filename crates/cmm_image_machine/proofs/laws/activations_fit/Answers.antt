use Rattle.cmm_image_machine.proofs.StackRead.{elements_fit}
use Rattle.cmm_image_machine.proofs.laws.activations_fit.Goals as goal

pub returns : goal.returns
returns c = elements_fit
