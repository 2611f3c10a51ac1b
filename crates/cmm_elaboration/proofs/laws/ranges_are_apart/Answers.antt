use Rattle.cmm_elaboration.proofs.Switching.{ranges_are_apart}
use Rattle.cmm_elaboration.proofs.laws.ranges_are_apart.Goals as goal

pub returns : goal.returns
returns c = ranges_are_apart
