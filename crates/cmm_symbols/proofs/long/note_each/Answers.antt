use Rattle.cmm_symbols.proofs.Lengths.{long_next}
use Rattle.cmm_symbols.proofs.long.note_each.Goals as goal

pub loop-item-preserved : goal.loop-item-preserved
loop-item-preserved g c = rw (c.note_long.ensures, c.loop-item.invariant)
    (long_next g.T.HasNames.names c.args.best.now c.args.items.now c.loop-item.item-index c.item-item.result c.loop-item-test.true c.item-item.is)
