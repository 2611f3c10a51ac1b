use Rattle.std.proofs.Common.{◌*◌, arith, length}
use Rattle.cmm_effects.proofs.Shared.{adds_then, adds_weaker}
use Rattle.cmm_calls.proofs.Making.{words_stored}
use Rattle.cmm_calls.proofs.entry.write_frame.Goals as goal

pub returns-clause-writes : goal.returns-clause-writes
returns-clause-writes c =
    let f = c.args.frame.now in
    adds_weaker
    (adds_then c.in_ok-save.ensures.saves (adds_then c.in_ok-save_all.ensures.saves c.in_ok-write_pairs.ensures.writes))
    (omega arith)
    (λ x from to does. words_stored x f c.args.landings.now c.requires.frame (3 * length f.saved) (8 * length f.pairs) from to does)
