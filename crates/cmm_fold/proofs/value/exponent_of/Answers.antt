use Rattle.std.proofs.Common.{inl, inr, arith}
use Rattle.cmm_fold.proofs.Standing.{below_or_not, pow_le}
use Rattle.cmm_fold.proofs.value.exponent_of.Goals as goal

pub returns-clause-none : goal.returns-clause-none
returns-clause-none c = λ k e.
    elim (below_or_not k c.loop-k.k) [
      | inl h ↦ c.loop-k.invariant k h e
      | inr h ↦ let big = pow_le 64 k (omega (arith, h, c.loop-k-test.false)) in absurd (omega (arith, big, e, c.ranges.n.fits))
    ]
