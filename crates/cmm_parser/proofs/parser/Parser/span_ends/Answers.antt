use Rattle.cmm_parser.proofs.Steps.{handed, steps, stops, gives}
use Rattle.cmm_parser.proofs.parser.Parser.span_ends.Goals as goal

pub returns-in_err-from : goal.returns-in_err-from
returns-in_err-from c = stops _ c.in_err-from.ensures (handed c.from_residual.ensures.1)

pub returns-in_err-expect : goal.returns-in_err-expect
returns-in_err-expect c = steps _ c.in_ok-from.ensures (stops _ c.in_err-expect.ensures (handed c.from_residual-in_err-expect.ensures.1))

pub returns-in_err-to : goal.returns-in_err-to
returns-in_err-to c = steps _ c.in_ok-from.ensures (steps _ c.in_ok-expect.ensures (stops _ c.in_err-to.ensures (handed c.from_residual-in_err-to.ensures.1)))

pub returns : goal.returns
returns c = steps _ c.in_ok-from.ensures (steps _ c.in_ok-expect.ensures (steps _ c.in_ok-to.ensures gives))
