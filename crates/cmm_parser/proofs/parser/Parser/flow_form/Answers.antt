use Rattle.cmm_parser.proofs.Steps.{steps, leaves}
use Rattle.cmm_parser.proofs.parser.Parser.flow_form.Goals as goal

pub returns-in_ok-expect_word-2 : goal.returns-in_ok-expect_word-2
returns-in_ok-expect_word-2 c = leaves (c.accept_word.ensures.kept c.if-accept_word.false) (steps _ c.in_ok-expect_word-2.ensures c.also.ensures)
