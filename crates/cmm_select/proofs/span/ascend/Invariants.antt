use Rattle.std.proofs.Common.{◌≡◌, ◌≤◌, ◌^◌, drop}
use Rattle.cmm_select.specs.inside.Searches.{ascend}
use Rattle.cmm_select.proofs.span.ascend.Given as goal

-- the spans that are left tell
abbrev pub invariant-loop-span : goal.invariant-loop-span
invariant-loop-span l = (l.least ≤ 2 ^ 64) × (ascend 0 l.spans ≡ ascend l.least (drop l.span-index l.spans))
