use Rattle.std.specs.Prelude.{flat_map}
use Rattle.cmm_static_semantics.proofs.Shared.{noted_next}
use Rattle.cmm_static_semantics.specs.Calls.{parameter_spots}
use Rattle.cmm_proc_scope.specs.Bodies.{scope_of_body}
use Rattle.cmm_check_procedure.proofs.passing.note_parameters.Goals as goal

pub loop-parameter-preserved : goal.loop-parameter-preserved
loop-parameter-preserved g c = rw (c.note_parameter.ensures, c.loop-parameter.invariant)
    (noted_next (parameter_spots (scope_of_body g.N.Names.senses c.args.names.now)) c.note_past_limit.new.best c.args.parameters.now c.loop-parameter.parameter-index c.parameter-item.result c.loop-parameter-test.true c.parameter-item.is)
