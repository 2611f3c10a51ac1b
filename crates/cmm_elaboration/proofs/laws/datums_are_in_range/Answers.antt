use Rattle.cmm_elaboration.proofs.Datums.{datums_are_in_range}
use Rattle.cmm_elaboration.proofs.laws.datums_are_in_range.Goals as goal

pub returns : goal.returns
returns c = datums_are_in_range
