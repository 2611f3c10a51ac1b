use Rattle.cmm_elaboration.proofs.RegisterNames.{register_names_are_short}
use Rattle.cmm_elaboration.proofs.laws.register_names_are_short.Goals as goal

pub returns : goal.returns
returns c = register_names_are_short
