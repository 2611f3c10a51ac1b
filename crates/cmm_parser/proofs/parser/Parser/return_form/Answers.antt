use Rattle.cmm_parser.proofs.Steps.{handed, steps, stops, gives}
use Rattle.cmm_parser.proofs.parser.Parser.return_form.Goals as goal

pub returns-in_err-exit : goal.returns-in_err-exit
returns-in_err-exit c = stops _ c.in_err-exit.ensures (handed c.from_residual.ensures.1)

pub returns-in_err-values : goal.returns-in_err-values
returns-in_err-values c = steps _ c.in_ok-exit.ensures (stops _ c.in_err-values.ensures (handed c.from_residual-in_err-values.ensures.1))

pub returns-in_err-expect : goal.returns-in_err-expect
returns-in_err-expect c = steps _ c.in_ok-exit.ensures (steps _ c.in_ok-values.ensures (stops _ c.in_err-expect.ensures (handed c.from_residual-in_err-expect.ensures.1)))

pub returns : goal.returns
returns c = steps _ c.in_ok-exit.ensures (steps _ c.in_ok-values.ensures (steps _ c.in_ok-expect.ensures gives))
