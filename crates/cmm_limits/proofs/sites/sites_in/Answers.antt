use Rattle.std.proofs.Common.{arith}
use Rattle.cmm_symbols.specs.Shown.{piece_part}
use Rattle.cmm_limits.proofs.Counts.{counted_next}
use Rattle.cmm_limits.proofs.sites.sites_in.Goals as goal

pub loop-piece-preserved : goal.loop-piece-preserved
loop-piece-preserved c =
    let next = counted_next piece_part c.args.pieces.now c.loop-piece.piece-index c.piece-item.result c.loop-piece-test.true c.piece-item.is in (
      omega (arith, next, c.sites_of-count.ensures.sites, c.loop-piece.invariant.0),
      omega (arith, c.sites_of-count.ensures.one, c.loop-piece.invariant.1),
    )
