use Rattle.cmm_live.proofs.Gathering.{sets_are_closed}
use Rattle.cmm_live.proofs.laws.sets_are_closed.Goals as goal

pub returns : goal.returns
returns c = sets_are_closed
