use Rattle.cmm_parser.proofs.Steps.{stops, handed, steps}
use Rattle.cmm_parser.proofs.parser.Parser.proc.Goals as goal

pub returns-in_err-name : goal.returns-in_err-name
returns-in_err-name c = stops _ c.in_err-name.ensures (handed c.from_residual.ensures.1)

pub returns : goal.returns
returns c = steps _ c.in_ok-name.ensures c.procedure.ensures
