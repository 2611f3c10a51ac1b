use Rattle.cmm_elaboration.proofs.BodyTokens.{bodies_are_counted}
use Rattle.cmm_elaboration.proofs.laws.bodies_are_counted.Goals as goal

pub returns : goal.returns
returns c = bodies_are_counted
