use Rattle.cmm_elaboration.proofs.Scoping.{scopes_fit}
use Rattle.cmm_elaboration.proofs.laws.scopes_fit.Goals as goal

pub returns : goal.returns
returns c = scopes_fit
