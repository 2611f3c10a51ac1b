use Rattle.std.proofs.Common.{◌∙◌}
use Rattle.cmm_lexer.proofs.Numbering.{keyword-at}
use Rattle.cmm_lexer.proofs.keyword.Keyword.of_number.Goals as goal

pub returns-then-place-lt49 : goal.returns-then-place-lt49
returns-then-place-lt49 c = keyword-at c.from-place.result c.if-place-lt49.true ∙ c.from-place.ensures
