use Rattle.cmm_hoisted.proofs.Flows.{hoisted_flows_are_bounded, hoisted_flows_are_graphs, hoisted_flows_have_room}
use Rattle.cmm_hoisted.proofs.laws.hoisted_flows_are_graphs.Goals as goal

pub returns-clause-graphs : goal.returns-clause-graphs
returns-clause-graphs c = hoisted_flows_are_graphs c.folded_flows_are_graphs.ensures.graphs

pub returns-clause-bounded : goal.returns-clause-bounded
returns-clause-bounded c =
    hoisted_flows_are_bounded (hoisted_flows_have_room c.folded_flows_are_short.ensures.entries c.folded_flows_are_graphs.ensures.bounded)

pub returns-clause-room : goal.returns-clause-room
returns-clause-room c = hoisted_flows_have_room c.folded_flows_are_short.ensures.entries c.folded_flows_are_graphs.ensures.bounded
