use Rattle.cmm_hoisted.proofs.Flows.{folded_flows_can_be_hoisted}
use Rattle.cmm_hoisted.proofs.laws.folded_flows_can_be_hoisted.Goals as goal

pub returns : goal.returns
returns c = folded_flows_can_be_hoisted c.folded_flows_are_short.ensures.entries c.folded_flows_follow_programs.ensures.tokens
