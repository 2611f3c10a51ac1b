use Rattle.std.proofs.Common.{ap, ◌∙◌}
use Rattle.std.specs.Prelude.{flat_map}
use Rattle.cmm_static_semantics.specs.Calls.{exit_spots, flow_names}
use Rattle.cmm_static_semantics.specs.Spots.{first_of}
use Rattle.cmm_static_semantics.proofs.Shared.{noted_next}
use Rattle.cmm_proc_scope.specs.Bodies.{scope_of_body}
use Rattle.cmm_check_procedure.proofs.flows.note_flows.Goals as goal

pub loop-flow-preserved : goal.loop-flow-preserved
loop-flow-preserved g c = rw (c.note_exits.ensures, c.flow_names.ensures, c.loop-flow.invariant)
    (noted_next (λ f. flat_map (exit_spots (scope_of_body g.N.Names.senses c.args.names.now)) (flow_names f)) c.args.best.now c.args.flows.now c.loop-flow.flow-index c.flow-item.result
    c.loop-flow-test.true c.flow-item.is)
