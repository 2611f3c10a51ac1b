use Rattle.cmm_parser.proofs.Steps.{handed, stops}
use Rattle.cmm_parser.proofs.parser.Parser.target.Goals as goal

pub returns-in_err-properties : goal.returns-in_err-properties
returns-in_err-properties c = stops _ c.in_err-properties.ensures (handed c.from_residual.ensures.1)
