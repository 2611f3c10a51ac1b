use Rattle.cmm_top_laws.proofs.Explaining.{errors_last}
use Rattle.cmm_top_laws.proofs.laws.errors_last.Goals as goal

pub returns : goal.returns
returns c = errors_last
