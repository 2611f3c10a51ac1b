use Rattle.std.proofs.Common.{◌≡◌, ◌*◌, take}
use Rattle.cmm_effects.specs.Pieces.{Adds}
use Rattle.cmm_select.specs.inside.Searches.{GoesInSpans}
use Rattle.cmm_select.proofs.searching.branch_in_spans.Given as goal

-- the spans so far
abbrev pub invariant-loop-span : goal.invariant-loop-span
invariant-loop-span l =
    Adds (20 * l.span-index) l.initial.asm.parts l.asm.parts (GoesInSpans (20 * l.span-index) (take l.span-index l.spans))
    × (l.asm.labels ≡ l.initial.asm.labels)
