use Rattle.std.proofs.Common.{◌≡◌, ◌-◌, take}
use Rattle.cmm_lower.specs.inside.Lengths.{parts_length}
use Rattle.cmm_lower.proofs.tokens.without_parts.Given as goal

abbrev pub invariant-loop-part : goal.invariant-loop-part
invariant-loop-part l = l.left ≡ l.fn.tokens - parts_length (take l.part-index l.parts)
