use Rattle.cmm_elaboration.proofs.Short.{names_are_short}
use Rattle.cmm_elaboration.proofs.laws.names_are_short.Goals as goal

pub returns : goal.returns
returns c = names_are_short
