use Rattle.cmm_elaboration.proofs.UnitNames.{names_are_there}
use Rattle.cmm_elaboration.proofs.laws.names_are_there.Goals as goal

pub returns : goal.returns
returns c = names_are_there
