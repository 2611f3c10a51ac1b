use Rattle.cmm_lower.proofs.Kept.{procedure_fits}
use Rattle.cmm_lower.proofs.laws.procedures_fit.Goals as goal

pub returns : goal.returns
returns c = procedure_fits
