use Rattle.cmm_located.proofs.Ordering.{frame_is_there}
use Rattle.cmm_located.proofs.laws.frames_are_there.Goals as goal

pub returns : goal.returns
returns c = frame_is_there
