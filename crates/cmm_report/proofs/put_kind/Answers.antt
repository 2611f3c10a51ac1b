use Rattle.cmm_script.specs.Kinds.{kind_byte}
use Rattle.cmm_outside.proofs.Shared.{fails_at_piece}
use Rattle.cmm_report.proofs.put_kind.Goals as goal

pub returns-in_err-put_kind_byte : goal.returns-in_err-put_kind_byte
returns-in_err-put_kind_byte g c =
    fails_at_piece kind_byte _ _ _ c.loop-byte-test.true c.loop-byte.invariant c.put_kind_byte.ensures c.in_err-put_kind_byte.was c.from_residual.ensures.0
