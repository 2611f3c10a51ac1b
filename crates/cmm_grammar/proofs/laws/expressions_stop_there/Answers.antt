use Rattle.cmm_grammar.proofs.ExpressionLaws.{each_is_too_deep, none_goes_on}
use Rattle.cmm_grammar.proofs.laws.expressions_stop_there.Goals as goal

pub returns-clause-unexpected : goal.returns-clause-unexpected
returns-clause-unexpected c = none_goes_on

pub returns-clause-too_deep : goal.returns-clause-too_deep
returns-clause-too_deep c = each_is_too_deep
