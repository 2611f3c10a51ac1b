use Rattle.cmm_symbols.proofs.Lengths.{long_taken}
use Rattle.cmm_symbols.proofs.long.note_names.Goals as goal

pub loop-name-preserved : goal.loop-name-preserved
loop-name-preserved c = rw (c.note_name.ensures, c.loop-name.invariant)
    (long_taken c.args.best.now c.args.names.now c.loop-name.name-index c.name-item.result c.loop-name-test.true c.name-item.is)
