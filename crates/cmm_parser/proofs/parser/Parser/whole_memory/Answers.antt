use Rattle.cmm_grammar.specs.ExpressionReading as readers
use Rattle.cmm_parser.proofs.Steps.{outer, with_more}
use Rattle.cmm_parser.proofs.parser.Parser.whole_memory.Goals as goal

pub returns : goal.returns
returns c = outer c.begin_outermost.ensures (with_more (λ fuel. readers.memory (readers.operand fuel) c.args.width) c.memory.ensures)
