use Rattle.std.proofs.Common.{◌≡◌, ◌-◌, take}
use Rattle.cmm_lower.specs.inside.Lengths.{arms_length}
use Rattle.cmm_lower.proofs.tokens.without_arms.Given as goal

abbrev pub invariant-loop-arm : goal.invariant-loop-arm
invariant-loop-arm l = l.left ≡ l.fn.tokens - arms_length (take l.arm-index l.arms)
