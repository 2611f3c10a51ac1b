use Rattle.cmm_hoisted.proofs.Following.{hoisted_flows_follow}
use Rattle.cmm_hoisted.proofs.laws.hoisted_flows_follow_programs.Goals as goal

pub returns : goal.returns
returns c =
    hoisted_flows_follow c.nodes_ask_by_reads.ensures.values c.nodes_ask_by_reads.ensures.orders c.folded_flows_are_graphs.ensures.graphs
    c.folded_flows_follow_programs.ensures.follows
