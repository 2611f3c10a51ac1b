use Rattle.cmm_parser.proofs.Steps.{handed, steps, stops, gives}
use Rattle.cmm_parser.proofs.parser.Parser.variables_part.Goals as goal

pub returns-in_err-form : goal.returns-in_err-form
returns-in_err-form c = stops _ c.in_err-form.ensures (handed c.from_residual.ensures.1)

pub returns : goal.returns
returns c = steps _ c.in_ok-form.ensures (gives)
