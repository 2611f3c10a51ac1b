use Rattle.std.proofs.Common.{◌≡◌, length}
use Rattle.cmm_program.specs.Placed.{pairs_apart}
use Rattle.cmm_program.proofs.placement.pairs_lie_apart.Given as goal

-- the answer depends on what is left alone
abbrev pub invariant-loop-offset : goal.invariant-loop-offset
invariant-loop-offset l = pairs_apart l.pairs ≡ pairs_apart l.left

abbrev pub decreases-loop-offset : goal.decreases-loop-offset
decreases-loop-offset l = length l.left
