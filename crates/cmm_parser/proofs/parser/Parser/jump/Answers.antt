use Rattle.cmm_parser.proofs.Steps.{handed, steps, stops, gives}
use Rattle.cmm_parser.proofs.parser.Parser.jump.Goals as goal

pub returns-in_err-callee : goal.returns-in_err-callee
returns-in_err-callee c = stops _ c.in_err-callee.ensures (handed c.from_residual.ensures.1)

pub returns-in_err-actuals : goal.returns-in_err-actuals
returns-in_err-actuals c = steps _ c.in_ok-callee.ensures (stops _ c.in_err-actuals.ensures (handed c.from_residual-in_err-actuals.ensures.1))

pub returns-in_err-expect : goal.returns-in_err-expect
returns-in_err-expect c = steps _ c.in_ok-callee.ensures (steps _ c.in_ok-actuals.ensures (stops _ c.in_err-expect.ensures (handed c.from_residual-in_err-expect.ensures.1)))

pub returns : goal.returns
returns c = steps _ c.in_ok-callee.ensures (steps _ c.in_ok-actuals.ensures (steps _ c.in_ok-expect.ensures gives))
