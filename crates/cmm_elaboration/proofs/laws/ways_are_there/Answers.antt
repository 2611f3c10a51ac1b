use Rattle.cmm_elaboration.proofs.Leading.{ways_are_there}
use Rattle.cmm_elaboration.proofs.laws.ways_are_there.Goals as goal

pub returns : goal.returns
returns c = ways_are_there
