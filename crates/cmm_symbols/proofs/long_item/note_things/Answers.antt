use Rattle.cmm_static_semantics.specs.LongNames.{of_item}
use Rattle.cmm_symbols.specs.Shown.{thing_item}
use Rattle.cmm_symbols.proofs.Lengths.{long_next_of}
use Rattle.cmm_symbols.proofs.long_item.note_things.Goals as goal

pub loop-thing-preserved : goal.loop-thing-preserved
loop-thing-preserved c = rw (c.in_ok-note_thing.ensures, c.loop-thing.invariant)
    (long_next_of thing_item of_item c.args.best.now c.args.things.now c.loop-thing.thing-index c.thing-item.result c.loop-thing-test.true c.thing-item.is)
