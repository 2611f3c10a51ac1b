use Rattle.cmm_folded.proofs.Flows.{folded_flows_are_covered}
use Rattle.cmm_folded.proofs.laws.folded_flows_are_covered.Goals as goal

pub returns : goal.returns
returns c = folded_flows_are_covered c.answers_are_covered.ensures
