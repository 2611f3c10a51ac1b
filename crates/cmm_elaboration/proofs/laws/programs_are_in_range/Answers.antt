use Rattle.cmm_elaboration.proofs.Together.{programs_are_in_range}
use Rattle.cmm_elaboration.proofs.laws.programs_are_in_range.Goals as goal

pub returns : goal.returns
returns c = programs_are_in_range
