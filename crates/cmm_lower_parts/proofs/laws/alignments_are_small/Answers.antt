use Rattle.cmm_lower_parts.proofs.Accepted.{alignments_are_small as law}
use Rattle.cmm_lower_parts.proofs.laws.alignments_are_small.Goals as goal

pub returns : goal.returns
returns c = law
