use Rattle.cmm_elaboration.proofs.SpentProcedures.{procedures_have_shortest}
use Rattle.cmm_elaboration.proofs.laws.procedures_have_shortest.Goals as goal

pub returns : goal.returns
returns c = procedures_have_shortest
