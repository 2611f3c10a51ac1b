use Rattle.cmm_static_semantics.specs.Statements.{lvalue_spots}
use Rattle.cmm_static_semantics.proofs.Shared.{noted_next}
use Rattle.cmm_proc_scope.specs.Bodies.{scope_of_body}
use Rattle.cmm_check_procedure.proofs.assignment.note_lvalues.Goals as goal

pub loop-place-preserved : goal.loop-place-preserved
loop-place-preserved g c = rw (c.note_lvalue.ensures, c.loop-place.invariant)
    (noted_next (lvalue_spots (scope_of_body g.N.Names.senses c.args.names.now)) c.args.best.now c.args.to.now c.loop-place.place-index c.place-item.result c.loop-place-test.true c.place-item.is)
