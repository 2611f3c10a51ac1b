use Rattle.std.proofs.Common.{◌∙◌}
use Rattle.cmm_grammar.specs.ExpressionReading.{whole_memory}
use Rattle.cmm_parser.proofs.Steps.{handed, loosely, steps, stops, gives, holds, same_reader}
use Rattle.cmm_parser.proofs.parser.Parser.lvalue_from.Goals as goal

pub returns-in_err-whole_memory : goal.returns-in_err-whole_memory
returns-in_err-whole_memory c =
    loosely (holds (c.is_symbol.ensures ∙ c.if-is_symbol.true) (stops _ (same_reader (λ width fuel. whole_memory fuel width) c.named_type.ensures c.in_err-whole_memory.ensures) (handed c.from_residual.ensures.1)))

pub returns-in_ok-whole_memory : goal.returns-in_ok-whole_memory
returns-in_ok-whole_memory c =
    loosely (holds (c.is_symbol.ensures ∙ c.if-is_symbol.true) (steps _ (same_reader (λ width fuel. whole_memory fuel width) c.named_type.ensures c.in_ok-whole_memory.ensures) gives))
