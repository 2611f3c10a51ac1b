use Rattle.cmm_hoisted.proofs.Flows.{hoisted_flows_have_sites, hoisted_flows_wait_at_each, hoisted_flows_wait_once}
use Rattle.cmm_hoisted.proofs.laws.hoisted_flows_wait_once.Goals as goal

pub returns-clause-once : goal.returns-clause-once
returns-clause-once c = hoisted_flows_wait_once c.folded_flows_wait_once.ensures.once

pub returns-clause-sites : goal.returns-clause-sites
returns-clause-sites c = hoisted_flows_have_sites c.folded_flows_wait_once.ensures.sites

pub returns-clause-each : goal.returns-clause-each
returns-clause-each c = hoisted_flows_wait_at_each c.folded_flows_wait_once.ensures.each
