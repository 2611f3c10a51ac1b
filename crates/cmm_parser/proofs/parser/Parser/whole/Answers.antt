use Rattle.cmm_parser.proofs.Steps.{handed, renamed, stopped}
use Rattle.cmm_parser.proofs.parser.Parser.whole.Goals as goal

pub returns-in_err-e : goal.returns-in_err-e
returns-in_err-e c = stopped c.in_err-e.ensures (handed c.from_residual.ensures.1)

pub returns : goal.returns
returns c = renamed c.into_inner.ensures c.in_ok-e.ensures
