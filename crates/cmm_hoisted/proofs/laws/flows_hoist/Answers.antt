use Rattle.cmm_hoisted.proofs.Flows.{flows_hoist, flows_within_are_hoisted}
use Rattle.cmm_hoisted.proofs.Within.{flows_within_are_fewer}
use Rattle.cmm_hoisted.proofs.laws.flows_hoist.Goals as goal

pub returns-clause-hoist : goal.returns-clause-hoist
returns-clause-hoist c = flows_hoist

pub returns-clause-each : goal.returns-clause-each
returns-clause-each c = flows_within_are_hoisted

pub returns-clause-fewer : goal.returns-clause-fewer
returns-clause-fewer c = flows_within_are_fewer
