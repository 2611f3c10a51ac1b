use Rattle.cmm_words.proofs.WordLaws.{value2-word}
use Rattle.cmm_words.proofs.laws.values_are_words.Goals as goal

pub returns-clause-two_operands : goal.returns-clause-two_operands
returns-clause-two_operands c = value2-word
