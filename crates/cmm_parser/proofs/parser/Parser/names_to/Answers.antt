use Rattle.cmm_parser.proofs.Steps.{stops, handed, steps}
use Rattle.cmm_parser.proofs.parser.Parser.names_to.Goals as goal

pub returns-in_err-expect_word : goal.returns-in_err-expect_word
returns-in_err-expect_word c = stops _ c.in_err-expect_word.ensures (handed c.from_residual.ensures.1)

pub returns : goal.returns
returns c = steps _ c.in_ok-expect_word.ensures c.listed.ensures
