use Rattle.cmm_parser.proofs.Steps.{handed, steps, stops}
use Rattle.cmm_parser.proofs.parser.Parser.call_after.Goals as goal

pub returns-in_err-convention : goal.returns-in_err-convention
returns-in_err-convention c = stops _ c.in_err-convention.ensures (handed c.from_residual.ensures.1)

pub returns-in_err-callee : goal.returns-in_err-callee
returns-in_err-callee c = steps _ c.in_ok-convention.ensures (stops _ c.in_err-callee.ensures (handed c.from_residual-in_err-callee.ensures.1))

pub returns : goal.returns
returns c = steps _ c.in_ok-convention.ensures (steps _ c.in_ok-callee.ensures (c.call.ensures))
