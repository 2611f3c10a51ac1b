use Rattle.cmm_parser.proofs.Steps.{outer}
use Rattle.cmm_parser.proofs.parser.Parser.boxed_whole.Goals as goal

pub returns : goal.returns
returns c = outer c.begin_outermost.ensures c.operand.ensures
