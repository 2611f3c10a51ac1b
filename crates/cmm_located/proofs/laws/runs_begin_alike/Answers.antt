use Rattle.cmm_located.proofs.Entries.{runs_begin_alike}
use Rattle.cmm_located.proofs.laws.runs_begin_alike.Goals as goal

pub returns : goal.returns
returns c = runs_begin_alike
