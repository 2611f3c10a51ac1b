use Rattle.cmm_parser.proofs.Steps.{handed, steps, stops, gives}
use Rattle.cmm_parser.proofs.parser.Parser.last_annotations.Goals as goal

pub returns-in_err-flows : goal.returns-in_err-flows
returns-in_err-flows c = stops _ c.in_err-flows.ensures (handed c.from_residual.ensures.1)

pub returns-in_err-expect : goal.returns-in_err-expect
returns-in_err-expect c = steps _ c.in_ok-flows.ensures (stops _ c.in_err-expect.ensures (handed c.from_residual-in_err-expect.ensures.1))

pub returns : goal.returns
returns c = steps _ c.in_ok-flows.ensures (steps _ c.in_ok-expect.ensures gives)
