use Rattle.cmm_folded.proofs.Following.{folded_flows_follow, folded_flows_have_tokens}
use Rattle.cmm_folded.proofs.laws.folded_flows_follow_programs.Goals as goal

pub returns-clause-tokens : goal.returns-clause-tokens
returns-clause-tokens c = folded_flows_have_tokens c.answers_are_flows.ensures

pub returns-clause-follows : goal.returns-clause-follows
returns-clause-follows c = folded_flows_follow c.graphs_simulate_at_costs.ensures.follows c.answers_are_flows.ensures
