use Rattle.std.proofs.Common.{◌+◌, ◌-◌, arith}
use Rattle.cmm_allocate.proofs.Offsets.{pairs_step}
use Rattle.cmm_allocate.proofs.layout.lay_pairs.Goals as goal

pub loop-preserved : goal.loop-preserved
loop-preserved c = (
  omega arith,
  rw c.in_ok-push.ensures.items (pairs_step c.loop.pairs.items _ c.loop.at (c.args.count - c.loop.counter) (c.args.count - (c.loop.counter + 1)) (omega arith) c.loop.invariant.1),
)
