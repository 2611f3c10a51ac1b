use Rattle.cmm_allocate.proofs.Running.{flows_can_be_placed}
use Rattle.cmm_allocate.proofs.laws.flows_can_be_placed.Goals as goal

pub returns : goal.returns
returns c = flows_can_be_placed c.hoisted_flows_are_graphs.ensures.graphs c.hoisted_flows_are_graphs.ensures.bounded c.hoisted_flows_are_graphs.ensures.room
