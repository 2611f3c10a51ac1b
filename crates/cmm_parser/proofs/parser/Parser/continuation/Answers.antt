use Rattle.cmm_parser.proofs.Steps.{handed, steps, stops, gives}
use Rattle.cmm_parser.proofs.parser.Parser.continuation.Goals as goal

pub returns-in_err-name : goal.returns-in_err-name
returns-in_err-name c = stops _ c.in_err-name.ensures (handed c.from_residual.ensures.1)

pub returns-in_err-parameters : goal.returns-in_err-parameters
returns-in_err-parameters c = steps _ c.in_ok-name.ensures (stops _ c.in_err-parameters.ensures (handed c.from_residual-in_err-parameters.ensures.1))

pub returns-in_err-expect : goal.returns-in_err-expect
returns-in_err-expect c = steps _ c.in_ok-name.ensures (steps _ c.in_ok-parameters.ensures (stops _ c.in_err-expect.ensures (handed c.from_residual-in_err-expect.ensures.1)))

pub returns : goal.returns
returns c = steps _ c.in_ok-name.ensures (steps _ c.in_ok-parameters.ensures (steps _ c.in_ok-expect.ensures (gives)))
