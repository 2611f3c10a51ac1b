use Rattle.cmm_folded.proofs.Flows.{folded_flows_keep_sites}
use Rattle.cmm_folded.proofs.laws.folded_flows_keep_sites.Goals as goal

pub returns : goal.returns
returns c = folded_flows_keep_sites c.answers_keep_liveness.ensures c.answers_wait_once.ensures.once c.sites_keep_liveness.ensures.sites
