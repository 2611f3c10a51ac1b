use Rattle.std.proofs.Common.{arith, drop}
use Rattle.cmm_program.proofs.Places.{end_of-grows}
use Rattle.cmm_program.proofs.placement.labels_stand_at.Goals as goal

-- the place is no further than the end of the stackdata
pub next_aligned-here-requires-clause-place : goal.next_aligned-here-requires-clause-place
next_aligned-here-requires-clause-place c = omega (arith, end_of-grows c.loop-item.place (drop c.loop-item.item-index c.args.items.now) c.loop-item.invariant.1, c.loop-item.invariant.0, c.requires.size)
