use Rattle.cmm_hoisted.proofs.LivenessSets.{hoisted_sets_are_of_procedure}
use Rattle.cmm_hoisted.proofs.laws.hoisted_flows_keep_liveness.Goals as goal

pub returns : goal.returns
returns c =
    hoisted_sets_are_of_procedure c.liveness_is_by_paths.ensures c.folded_flows_are_graphs.ensures.graphs c.folded_flows_wait_once.ensures.each
    c.folded_flows_keep_sites.ensures
