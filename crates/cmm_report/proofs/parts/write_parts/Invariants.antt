use Rattle.std.proofs.Common.{take}
use Rattle.std.specs.List.{flat_map}
use Rattle.cmm_outside.proofs.Shared.{HasWritten}
use Rattle.cmm_report.specs.Parts.{part_text}
use Rattle.cmm_report.proofs.parts.write_parts.Given as goal

abbrev pub invariant-loop-part : goal.invariant-loop-part
invariant-loop-part g l = HasWritten g.E.Sink.taken g.E.Sink.faults l.initial.log l.log (flat_map part_text (take l.part-index l.parts))
