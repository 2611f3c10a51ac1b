use Rattle.cmm_lower.proofs.AcceptedProcedures.{units_fit}
use Rattle.cmm_lower.proofs.laws.units_fit.Goals as goal

pub returns : goal.returns
returns c = units_fit
