use Rattle.cmm_lower_parts.proofs.Sizes.{programs_fit as law}
use Rattle.cmm_lower_parts.proofs.laws.programs_fit.Goals as goal

pub returns : goal.returns
returns c = law
