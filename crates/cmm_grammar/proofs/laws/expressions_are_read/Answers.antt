use Rattle.cmm_grammar.proofs.ExpressionLaws.{each_is_read, what_is_read_is_one}
use Rattle.cmm_grammar.proofs.laws.expressions_are_read.Goals as goal

pub returns-clause-complete : goal.returns-clause-complete
returns-clause-complete c = each_is_read

pub returns-clause-sound : goal.returns-clause-sound
returns-clause-sound c = what_is_read_is_one
