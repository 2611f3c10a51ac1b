use Rattle.cmm_lower_parts.proofs.Accepted.{parameters_are_variables as law}
use Rattle.cmm_lower_parts.proofs.laws.parameters_are_variables.Goals as goal

pub returns : goal.returns
returns c = law
