use Rattle.std.proofs.Common.{◌≡◌, ◌<◌, ◌^◌, drop}
use Rattle.cmm_words.specs.Digits.{base, sum_of}
use Rattle.cmm_words.proofs.Carried.{carried}
use Rattle.cmm_words.proofs.digits.Radix.sum.Given as goal

-- the digits that are left, after the sum so far, count what all do
abbrev pub invariant-loop-digit : goal.invariant-loop-digit
invariant-loop-digit l = (carried (base l.self) l.sum (drop l.digit-index l.digits) ≡ sum_of (base l.self) l.digits) × (l.sum < 2 ^ 64)
