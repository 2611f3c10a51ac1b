use Rattle.std.proofs.Common.{◌≡◌, take}
use Rattle.cmm_select.specs.inside.Searches.{spans_of}
use Rattle.cmm_select.proofs.span.spans_of.Given as goal

abbrev pub invariant-loop-arm : goal.invariant-loop-arm
invariant-loop-arm l = l.spans.items ≡ spans_of l.labels (take l.arm-index l.arms)
