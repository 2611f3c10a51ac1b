use Rattle.cmm_folded.proofs.Flows.{folded_flows_are_bounded, folded_flows_are_graphs}
use Rattle.cmm_folded.proofs.laws.folded_flows_are_graphs.Goals as goal

pub returns-clause-graphs : goal.returns-clause-graphs
returns-clause-graphs c = folded_flows_are_graphs c.answers_are_graphs.ensures.graphs

pub returns-clause-bounded : goal.returns-clause-bounded
returns-clause-bounded c = folded_flows_are_bounded c.answers_are_graphs.ensures.bounded
