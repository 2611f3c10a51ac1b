use Rattle.std.proofs.Common.{◌≡◌, ◌++◌, take}
use Rattle.cmm_lower.proofs.spans.add_all.Given as goal

abbrev pub invariant-loop-span : goal.invariant-loop-span
invariant-loop-span l = l.to ≡ l.initial.to ++ take l.span-index l.spans
