use Rattle.std.proofs.Common.{refl}
use Rattle.cmm_flow.proofs.ExpressionForms.{operand_of_extended}
use Rattle.cmm_flow.proofs.expression.+operand_of.Goals as goal

pub returns-in-ZeroExtend : goal.returns-in-ZeroExtend
returns-in-ZeroExtend t c = rw (c.in-ZeroExtend.is, operand_of_extended, c.operand_of.ensures, c.get.ensures) refl
