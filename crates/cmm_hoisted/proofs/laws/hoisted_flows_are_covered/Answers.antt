use Rattle.cmm_hoisted.proofs.Flows.{hoisted_flows_are_covered, hoisted_flows_are_short, hoisted_flows_have_entries}
use Rattle.cmm_hoisted.proofs.laws.hoisted_flows_are_covered.Goals as goal

pub returns-clause-covered : goal.returns-clause-covered
returns-clause-covered c = hoisted_flows_are_covered c.folded_flows_are_short.ensures.entries c.folded_flows_are_covered.ensures

pub returns-clause-short : goal.returns-clause-short
returns-clause-short c = hoisted_flows_are_short c.folded_flows_are_short.ensures.short

pub returns-clause-entries : goal.returns-clause-entries
returns-clause-entries c = hoisted_flows_have_entries
