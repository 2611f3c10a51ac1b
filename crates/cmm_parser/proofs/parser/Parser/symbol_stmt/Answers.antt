use Rattle.std.proofs.Common.{◌∙◌}
use Rattle.cmm_grammar.specs.CallReading.{call_after}
use Rattle.cmm_parser.proofs.Steps.{holds, same_reader}
use Rattle.cmm_parser.proofs.parser.Parser.symbol_stmt.Goals as goal

pub returns-then-is_symbol : goal.returns-then-is_symbol
returns-then-is_symbol c = holds (c.is_symbol.ensures ∙ c.if-is_symbol.true) (same_reader (λ results fuel. call_after fuel results) c.new.ensures c.call_after.ensures)
