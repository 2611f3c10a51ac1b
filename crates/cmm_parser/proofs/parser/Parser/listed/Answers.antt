use Rattle.cmm_parser.proofs.Steps.{handed, stops}
use Rattle.cmm_parser.proofs.parser.Parser.listed.Goals as goal

pub returns-in_err-first : goal.returns-in_err-first
returns-in_err-first g c = stops _ c.in_err-first.ensures (handed c.from_residual.ensures.1)
