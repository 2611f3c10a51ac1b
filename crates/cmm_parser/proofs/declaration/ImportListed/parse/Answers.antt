use Rattle.cmm_parser.proofs.Steps.{handed, steps, stops}
use Rattle.cmm_parser.proofs.declaration.ImportListed.parse.Goals as goal

pub returns-in_err-name : goal.returns-in_err-name
returns-in_err-name c = steps _ c.in_ok-link.ensures (stops _ c.in_err-name.ensures (handed c.from_residual-in_err-name.ensures.1))
