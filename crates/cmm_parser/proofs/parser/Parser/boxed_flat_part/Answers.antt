use Rattle.cmm_parser.proofs.Steps.{handed, renamed, stopped}
use Rattle.cmm_parser.proofs.parser.Parser.boxed_flat_part.Goals as goal

pub returns-in_err-form : goal.returns-in_err-form
returns-in_err-form c = stopped c.in_err-form.ensures (handed c.from_residual.ensures.1)

pub returns : goal.returns
returns c = renamed c.in_ok-part.ensures c.in_ok-form.ensures
