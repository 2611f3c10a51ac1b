use Rattle.cmm_allocate.proofs.Compiling.{places_are_compiled, places_are_showable}
use Rattle.cmm_allocate.proofs.laws.places_are_compiled.Goals as goal

pub returns-clause-compiled : goal.returns-clause-compiled
returns-clause-compiled c =
    places_are_compiled c.hoisted_flows_are_graphs.ensures.graphs c.sets_are_closed.ensures c.hoisted_flows_wait_once.ensures.once c.hoisted_flows_wait_once.ensures.sites c.hoisted_flows_wait_once.ensures.each

pub returns-clause-showable : goal.returns-clause-showable
returns-clause-showable c =
    places_are_showable c.hoisted_flows_are_graphs.ensures.graphs c.sets_are_closed.ensures c.hoisted_flows_wait_once.ensures.once c.hoisted_flows_wait_once.ensures.sites c.hoisted_flows_wait_once.ensures.each
    c.hoisted_flows_keep_liveness.ensures
