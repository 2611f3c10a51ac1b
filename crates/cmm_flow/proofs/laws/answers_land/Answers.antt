use Rattle.cmm_flow.proofs.Landings.{answers_land}
use Rattle.cmm_flow.proofs.laws.answers_land.Goals as goal

pub returns : goal.returns
returns c = answers_land
