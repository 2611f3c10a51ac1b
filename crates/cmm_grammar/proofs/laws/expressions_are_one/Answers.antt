use Rattle.cmm_grammar.proofs.ExpressionLaws.{one_expression}
use Rattle.cmm_grammar.proofs.laws.expressions_are_one.Goals as goal

pub returns : goal.returns
returns c = one_expression
