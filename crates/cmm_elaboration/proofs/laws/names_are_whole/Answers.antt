use Rattle.cmm_elaboration.proofs.WholeUnits.{names_are_whole}
use Rattle.cmm_elaboration.proofs.laws.names_are_whole.Goals as goal

pub returns : goal.returns
returns c = names_are_whole
