use Rattle.std.proofs.Common.{◌≡◌, ◌++◌, take}
use Rattle.cmm_select.specs.inside.Searches.{spans_in}
use Rattle.cmm_select.proofs.span.add_spans.Given as goal

abbrev pub invariant-loop-range : goal.invariant-loop-range
invariant-loop-range l = l.spans.items ≡ l.initial.spans.items ++ spans_in l.label (take l.range-index l.ranges)
