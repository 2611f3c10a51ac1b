use Rattle.std.specs.Prelude.{flat_map}
use Rattle.cmm_static_semantics.proofs.Shared.{noted_next}
use Rattle.cmm_static_semantics.specs.Calls.{ident_spots}
use Rattle.cmm_proc_scope.specs.Bodies.{scope_of_body}
use Rattle.cmm_check_procedure.proofs.passing.note_results.Goals as goal

pub loop-taken-preserved : goal.loop-taken-preserved
loop-taken-preserved g c = rw (c.note_target.ensures, c.loop-taken.invariant)
    (noted_next (λ k. ident_spots (scope_of_body g.N.Names.senses c.args.names.now) k.name) c.note_past_limit.new.best c.args.results.now c.loop-taken.taken-index c.taken-item.result c.loop-taken-test.true c.taken-item.is)
