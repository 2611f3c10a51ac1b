use Rattle.std.proofs.Common.{◌≡◌, replicate, false}
use Rattle.cmm_live.proofs.fixed_point.empty_sets.Given as goal

abbrev pub invariant-loop-index : goal.invariant-loop-index
invariant-loop-index l = l.sets.items ≡ replicate l.index (replicate l.size false)
