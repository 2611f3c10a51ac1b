use Rattle.std.proofs.Common.{refl}
use Rattle.cmm_flow.proofs.ExpressionForms.{plain_of_extended}
use Rattle.cmm_flow.proofs.expression.+is_plain.Goals as goal

pub returns-in-ZeroExtend : goal.returns-in-ZeroExtend
returns-in-ZeroExtend t c = rw (c.in-ZeroExtend.is, plain_of_extended, c.is_plain.ensures, c.get.ensures) refl
