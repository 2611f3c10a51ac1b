use Rattle.cmm_parser.proofs.Steps.{handed, steps, stops, gives}
use Rattle.cmm_parser.proofs.case.RangeListed.parse.Goals as goal

pub returns-in_err-from : goal.returns-in_err-from
returns-in_err-from c = stops _ c.in_err-from.ensures (handed c.from_residual.ensures.1)

pub returns-in_err-to : goal.returns-in_err-to
returns-in_err-to c = steps _ c.in_ok-from.ensures (stops _ c.in_err-to.ensures (handed c.from_residual-in_err-to.ensures.1))

pub returns : goal.returns
returns c = steps _ c.in_ok-from.ensures (steps _ c.in_ok-to.ensures gives)
