use Rattle.cmm_hoisted.proofs.Flows.{hoisted_flows_pass_few, hoisted_flows_yield_there}
use Rattle.cmm_hoisted.proofs.laws.hoisted_flows_pass_few.Goals as goal

pub returns-clause-few : goal.returns-clause-few
returns-clause-few c = hoisted_flows_pass_few c.folded_flows_pass_few.ensures.few

pub returns-clause-yields : goal.returns-clause-yields
returns-clause-yields c = hoisted_flows_yield_there c.folded_flows_pass_few.ensures.yields
