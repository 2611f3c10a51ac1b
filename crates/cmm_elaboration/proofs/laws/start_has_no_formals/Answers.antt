use Rattle.cmm_elaboration.proofs.Starting.{start_has_no_formals}
use Rattle.cmm_elaboration.proofs.laws.start_has_no_formals.Goals as goal

pub returns : goal.returns
returns c = start_has_no_formals
