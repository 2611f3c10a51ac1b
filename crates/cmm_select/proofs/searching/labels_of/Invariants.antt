use Rattle.std.proofs.Common.{◌≡◌, map, take}
use Rattle.cmm_select.proofs.searching.labels_of.Given as goal

abbrev pub invariant-loop-span : goal.invariant-loop-span
invariant-loop-span l = l.labels.items ≡ map (λ span. span.label) (take l.span-index l.spans)
