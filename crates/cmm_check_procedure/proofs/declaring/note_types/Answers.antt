use Rattle.cmm_static_semantics.proofs.Shared.{noted_next}
use Rattle.cmm_proc_scope.specs.Bodies.{scope_of_body}
use Rattle.cmm_check_procedure.specs.inside.Formals.{formal_spots}
use Rattle.cmm_check_procedure.proofs.declaring.note_types.Goals as goal

pub loop-formal-preserved : goal.loop-formal-preserved
loop-formal-preserved g c = rw (c.note_formal.ensures, c.loop-formal.invariant)
    (noted_next (formal_spots (scope_of_body g.N.Names.senses c.args.names.now)) c.args.best.now c.args.formals.now c.loop-formal.formal-index c.formal-item.result c.loop-formal-test.true c.formal-item.is)
