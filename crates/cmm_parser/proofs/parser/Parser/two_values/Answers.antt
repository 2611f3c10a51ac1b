use Rattle.cmm_parser.proofs.Steps.{handed, steps, stops, gives}
use Rattle.cmm_parser.proofs.parser.Parser.two_values.Goals as goal

pub returns-in_err-left : goal.returns-in_err-left
returns-in_err-left c = stops _ c.in_err-left.ensures (handed c.from_residual.ensures.1)

pub returns-in_err-right : goal.returns-in_err-right
returns-in_err-right c = steps _ c.in_ok-left.ensures (steps _ c.in_ok-expect.ensures (stops _ c.in_err-right.ensures (handed c.from_residual-in_err-right.ensures.1)))

pub returns : goal.returns
returns c = steps _ c.in_ok-left.ensures (steps _ c.in_ok-expect.ensures (steps _ c.in_ok-right.ensures (gives)))
