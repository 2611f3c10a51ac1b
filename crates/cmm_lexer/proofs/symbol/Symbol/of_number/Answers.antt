use Rattle.std.proofs.Common.{◌∙◌}
use Rattle.cmm_lexer.proofs.Numbering.{symbol-at}
use Rattle.cmm_lexer.proofs.symbol.Symbol.of_number.Goals as goal

pub returns-then-place-lt29 : goal.returns-then-place-lt29
returns-then-place-lt29 c = symbol-at c.from-place.result c.if-place-lt29.true ∙ c.from-place.ensures
