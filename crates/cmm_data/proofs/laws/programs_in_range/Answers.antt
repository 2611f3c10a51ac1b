use Rattle.cmm_data.proofs.Layable.{in_range_can}
use Rattle.cmm_data.proofs.laws.programs_in_range.Goals as goal

pub returns : goal.returns
returns c = in_range_can
