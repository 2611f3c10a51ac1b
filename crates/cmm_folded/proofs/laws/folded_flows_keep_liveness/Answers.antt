use Rattle.cmm_folded.proofs.Flows.{folded_sets_are_of_procedure}
use Rattle.cmm_folded.proofs.laws.folded_flows_keep_liveness.Goals as goal

pub returns : goal.returns
returns c = folded_sets_are_of_procedure c.answers_keep_liveness.ensures c.answers_wait_once.ensures.once c.sites_keep_liveness.ensures.sets
