use Rattle.cmm_parser.proofs.Steps.{handed, steps, stops, gives}
use Rattle.cmm_parser.proofs.parser.Parser.literal.Goals as goal

pub returns-in_err-number : goal.returns-in_err-number
returns-in_err-number c = stops _ c.in_err-number.ensures (handed c.from_residual.ensures.1)

pub returns-in_err-width : goal.returns-in_err-width
returns-in_err-width c = steps _ c.in_ok-number.ensures (stops _ c.in_err-width.ensures (handed c.from_residual-in_err-width.ensures.1))

pub returns : goal.returns
returns c = steps _ c.in_ok-number.ensures (steps _ c.in_ok-width.ensures gives)
