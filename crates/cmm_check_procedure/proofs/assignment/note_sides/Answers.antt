use Rattle.std.proofs.Common.{refl}
use Rattle.cmm_proc_scope.specs.Bodies.{scope_of_body}
use Rattle.cmm_check_procedure.proofs.Sided.{sides_step}
use Rattle.cmm_check_procedure.proofs.assignment.note_sides.Goals as goal

pub loop-left-preserved : goal.loop-left-preserved
loop-left-preserved g c =
    sides_step (scope_of_body g.N.Names.senses c.args.names.now) c.loop-left.best c.note_side.new.best _ c.loop-left.places.now c.past_first-places.result.now c.loop-left.left.now _
    c.value-item.result c.in-len1-up.len_at_least c.value-item.is refl c.note_side.ensures c.past_first-places.ensures c.loop-left.invariant
