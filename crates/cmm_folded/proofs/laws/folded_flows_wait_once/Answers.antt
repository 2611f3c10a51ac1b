use Rattle.cmm_folded.proofs.Flows.{folded_flows_have_sites, folded_flows_wait_at_each, folded_flows_wait_once}
use Rattle.cmm_folded.proofs.laws.folded_flows_wait_once.Goals as goal

pub returns-clause-once : goal.returns-clause-once
returns-clause-once c = folded_flows_wait_once c.answers_wait_once.ensures.once

pub returns-clause-sites : goal.returns-clause-sites
returns-clause-sites c = folded_flows_have_sites c.answers_wait_once.ensures.sites

pub returns-clause-each : goal.returns-clause-each
returns-clause-each c = folded_flows_wait_at_each c.answers_wait_once.ensures.each
