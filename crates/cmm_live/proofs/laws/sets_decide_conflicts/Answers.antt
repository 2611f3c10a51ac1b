use Rattle.cmm_live.proofs.Conflicting.{sets_decide_conflicts}
use Rattle.cmm_live.proofs.laws.sets_decide_conflicts.Goals as goal

pub returns : goal.returns
returns c = sets_decide_conflicts
