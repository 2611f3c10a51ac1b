use Rattle.std.proofs.Common.{◌∙◌}
use Rattle.cmm_parser.proofs.Steps.{loosely, holds, fails}
use Rattle.cmm_parser.proofs.parser.Parser.initial.Goals as goal

pub returns-then-is_symbol : goal.returns-then-is_symbol
returns-then-is_symbol c =
    loosely (fails (c.is_text.ensures ∙ c.if-is_text.false) (holds (c.is_symbol.ensures ∙ c.if-is_symbol.true) c.values.ensures))
