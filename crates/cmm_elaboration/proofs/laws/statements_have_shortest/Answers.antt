use Rattle.cmm_elaboration.proofs.SpentBodies.{statements_have_shortest}
use Rattle.cmm_elaboration.proofs.laws.statements_have_shortest.Goals as goal

pub returns : goal.returns
returns c = statements_have_shortest
