use Rattle.cmm_outside.proofs.Shared.{fails_at_piece}
use Rattle.cmm_report.specs.Texts.{value_text}
use Rattle.cmm_report.proofs.put_values.Goals as goal

pub returns-in_err-put_value : goal.returns-in_err-put_value
returns-in_err-put_value g c =
    fails_at_piece value_text _ _ _ c.loop-value-test.true c.loop-value.invariant c.put_value.ensures c.in_err-put_value.was c.from_residual.ensures.0
