use Rattle.std.proofs.Common.{◌≡◌, length}
use Rattle.cmm_hoist.proofs.loops.in_loops.Given as goal

abbrev pub invariant-loop-before : goal.invariant-loop-before
invariant-loop-before l = length l.inside ≡ l.before-end
