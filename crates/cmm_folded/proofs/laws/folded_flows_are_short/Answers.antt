use Rattle.cmm_folded.proofs.Flows.{folded_flows_are_short, folded_flows_have_entries}
use Rattle.cmm_folded.proofs.laws.folded_flows_are_short.Goals as goal

pub returns-clause-short : goal.returns-clause-short
returns-clause-short c = folded_flows_are_short c.answers_are_short.ensures

pub returns-clause-entries : goal.returns-clause-entries
returns-clause-entries c = folded_flows_have_entries
