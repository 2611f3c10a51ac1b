use Rattle.cmm_effects.proofs.Following.{sets_follow}
use Rattle.cmm_effects.proofs.laws.pieces_follow.Goals as goal

pub returns : goal.returns
returns c = sets_follow
