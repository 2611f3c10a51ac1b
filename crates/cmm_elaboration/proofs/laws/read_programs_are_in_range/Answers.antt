use Rattle.cmm_elaboration.proofs.OfBytes.{read_programs_are_in_range}
use Rattle.cmm_elaboration.proofs.laws.read_programs_are_in_range.Goals as goal

pub returns : goal.returns
returns c = read_programs_are_in_range
