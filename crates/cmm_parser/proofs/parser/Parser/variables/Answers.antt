use Rattle.cmm_parser.proofs.Steps.{handed, stops}
use Rattle.cmm_parser.proofs.parser.Parser.variables.Goals as goal

pub returns-in_err-names : goal.returns-in_err-names
returns-in_err-names c = stops _ c.in_err-names.ensures (handed c.from_residual.ensures.1)
