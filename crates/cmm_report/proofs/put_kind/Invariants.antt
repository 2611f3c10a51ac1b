use Rattle.std.proofs.Common.{take}
use Rattle.cmm_outside.proofs.Shared.{HasWritten}
use Rattle.cmm_script.specs.Kinds.{kind_text}
use Rattle.cmm_report.proofs.put_kind.Given as goal

abbrev pub invariant-loop-byte : goal.invariant-loop-byte
invariant-loop-byte g l = HasWritten g.E.Sink.taken g.E.Sink.faults l.initial.to l.to (kind_text (take l.byte-index l.kind))
