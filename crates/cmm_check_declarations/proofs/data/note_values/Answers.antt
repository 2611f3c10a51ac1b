use Rattle.cmm_static_semantics.specs.Expressions.{constant_alone_spots}
use Rattle.cmm_static_semantics.proofs.Shared.{noted_next}
use Rattle.cmm_check_declarations.proofs.data.note_values.Goals as goal

pub loop-value-preserved : goal.loop-value-preserved
loop-value-preserved g c = rw (c.note_constant_alone.ensures, c.loop-value.invariant)
    (noted_next (constant_alone_spots (g.N.Names.senses c.args.names.now) c.args.width) c.args.best.now c.args.values.now c.loop-value.value-index c.value-item.result
    c.loop-value-test.true c.value-item.is)
