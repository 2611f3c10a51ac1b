use Rattle.cmm_grammar.proofs.UnitLaws.{one_answer}
use Rattle.cmm_grammar.proofs.laws.units_have_one_answer.Goals as goal

pub returns : goal.returns
returns c = one_answer
