use Rattle.cmm_folded.proofs.Flows.{folded_flows_pass_few, folded_flows_yield_there}
use Rattle.cmm_folded.proofs.laws.folded_flows_pass_few.Goals as goal

pub returns-clause-few : goal.returns-clause-few
returns-clause-few c = folded_flows_pass_few c.answers_pass_few.ensures.few

pub returns-clause-yields : goal.returns-clause-yields
returns-clause-yields c = folded_flows_yield_there c.answers_pass_few.ensures.yields
