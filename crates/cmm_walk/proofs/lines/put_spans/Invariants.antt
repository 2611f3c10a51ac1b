use Rattle.std.proofs.Common.{take, flat_map}
use Rattle.cmm_outside.proofs.Shared.{HasWritten}
use Rattle.cmm_walk.specs.inside.Lines.{spanned}
use Rattle.cmm_walk.proofs.lines.put_spans.Given as goal

abbrev pub invariant-loop-span : goal.invariant-loop-span
invariant-loop-span g l = HasWritten g.E.Sink.taken g.E.Sink.faults l.initial.to l.to (flat_map spanned (take l.span-index l.spans))
