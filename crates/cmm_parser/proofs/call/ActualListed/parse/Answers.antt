use Rattle.cmm_parser.proofs.Steps.{handed, steps, stops}
use Rattle.cmm_parser.proofs.call.ActualListed.parse.Goals as goal

pub returns-in_err-value : goal.returns-in_err-value
returns-in_err-value c = steps _ c.in_ok-kind.ensures (stops _ c.in_err-value.ensures (handed c.from_residual-in_err-value.ensures.1))
