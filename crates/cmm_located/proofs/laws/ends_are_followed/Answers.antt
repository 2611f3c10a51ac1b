use Rattle.cmm_located.proofs.Resting.{ends_are_followed}
use Rattle.cmm_located.proofs.laws.ends_are_followed.Goals as goal

pub returns : goal.returns
returns c = ends_are_followed
