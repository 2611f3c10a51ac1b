use Rattle.cmm_report.specs.Parts.{part_text}
use Rattle.cmm_outside.proofs.Shared.{fails_at_piece}
use Rattle.cmm_report.proofs.parts.write_parts.Goals as goal

pub returns-in_err-write_part : goal.returns-in_err-write_part
returns-in_err-write_part g c =
    fails_at_piece part_text _ _ _ c.loop-part-test.true c.loop-part.invariant c.write_part.ensures c.in_err-write_part.was c.from_residual.ensures.0
