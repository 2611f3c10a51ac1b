use Rattle.cmm_static_semantics.specs.Units.{item_spots}
use Rattle.cmm_symbols.specs.Shown.{thing_item}
use Rattle.cmm_static_semantics.proofs.Shared.{noted_next_of}
use Rattle.cmm_check_declarations.proofs.items.note_items.Goals as goal

pub loop-thing-preserved : goal.loop-thing-preserved
loop-thing-preserved g c = rw (c.note_thing.ensures, c.loop-thing.invariant)
    (noted_next_of thing_item (item_spots (g.N.Names.senses c.args.names.now)) c.args.best.now c.args.things.now c.loop-thing.thing-index c.thing-item.result
    c.loop-thing-test.true c.thing-item.is)
