use Rattle.cmm_static_semantics.specs.Units.{target_decl_spots}
use Rattle.cmm_symbols.specs.Shown.{thing_item}
use Rattle.cmm_static_semantics.proofs.Shared.{noted_next_of}
use Rattle.cmm_check_units.proofs.target.note_targets.Goals as goal

pub loop-thing-preserved : goal.loop-thing-preserved
loop-thing-preserved c = rw (c.note_thing.ensures, c.loop-thing.invariant)
    (noted_next_of thing_item target_decl_spots c.args.best.now c.args.things.now c.loop-thing.thing-index c.thing-item.result c.loop-thing-test.true c.thing-item.is)
