use Rattle.std.proofs.Common.{take, flat_map}
use Rattle.cmm_outside.proofs.Shared.{HasWritten}
use Rattle.cmm_report.specs.Texts.{value_text}
use Rattle.cmm_report.proofs.put_values.Given as goal

abbrev pub invariant-loop-value : goal.invariant-loop-value
invariant-loop-value g l = HasWritten g.E.Sink.taken g.E.Sink.faults l.initial.to l.to (flat_map value_text (take l.value-index l.values))
