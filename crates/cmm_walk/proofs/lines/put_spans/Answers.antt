use Rattle.cmm_walk.specs.inside.Lines.{spanned}
use Rattle.cmm_outside.proofs.Shared.{fails_at_piece}
use Rattle.cmm_walk.proofs.lines.put_spans.Goals as goal

pub returns-in_err-put_span : goal.returns-in_err-put_span
returns-in_err-put_span g c =
    fails_at_piece spanned _ _ _ c.loop-span-test.true c.loop-span.invariant c.put_span.ensures c.in_err-put_span.was c.from_residual.ensures.0
