use Rattle.std.proofs.Common.{◌≡◌, map, take}
use Rattle.cmm_flow.proofs.sites.continuations.Given as goal

-- the numbers so far
abbrev pub invariant-loop-number : goal.invariant-loop-number
invariant-loop-number l = l.continuations ≡ map (λ k. record { number = k }) (take l.number-index l.numbers)
