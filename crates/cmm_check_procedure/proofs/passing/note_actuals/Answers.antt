use Rattle.std.specs.Prelude.{flat_map, None}
use Rattle.cmm_static_semantics.proofs.Shared.{noted_next}
use Rattle.cmm_static_semantics.specs.Expressions.{bits_spots}
use Rattle.cmm_static_semantics.specs.Scopes.{senses}
use Rattle.cmm_proc_scope.specs.Bodies.{scope_of_body}
use Rattle.cmm_check_procedure.proofs.passing.note_actuals.Goals as goal

pub loop-actual-preserved : goal.loop-actual-preserved
loop-actual-preserved g c = rw (c.note_bits.ensures, c.loop-actual.invariant)
    (noted_next (λ a. bits_spots (senses (scope_of_body g.N.Names.senses c.args.names.now)) None a.value) c.note_past_limit.new.best c.args.actuals.now c.loop-actual.actual-index c.actual-item.result c.loop-actual-test.true c.actual-item.is)
