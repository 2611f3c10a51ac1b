use Rattle.std.proofs.Common.{refl, ◌∙◌, sym}
use Rattle.cmm_flow.proofs.ExpressionForms.{rvalue_of_load, rvalue_of_unary, rvalue_of_binary, rvalue_of_sign_extend, rvalue_of_zero_extend, rvalue_of_low_bits}
use Rattle.cmm_flow.proofs.Laying.{if_ok}
use Rattle.cmm_flow.proofs.expression.+rvalue_of.Goals as goal

pub returns-in-Load : goal.returns-in-Load
returns-in-Load t c = rw (c.in-Load.is, rvalue_of_load, c.operand_of.ensures, c.get.ensures) refl

pub returns-in-Unary : goal.returns-in-Unary
returns-in-Unary t c = rw (c.in-Unary.is, rvalue_of_unary, c.operand_of-in-Unary.ensures, c.get-in-Unary.ensures) refl

pub returns-in_ok-following-in-Binary : goal.returns-in_ok-following-in-Binary
returns-in_ok-following-in-Binary t c =
    rw (c.in-Binary.is, rvalue_of_binary, c.operand_of-in-Binary.ensures, c.operand_of-in-Binary-2.ensures, c.in_ok-following-in-Binary.ensures, c.get-in-Binary.ensures, c.get-in-Binary-2.ensures) refl

pub returns-in-SignExtend : goal.returns-in-SignExtend
returns-in-SignExtend t c = rw (c.in-SignExtend.is, rvalue_of_sign_extend, c.operand_of-in-SignExtend.ensures, c.get-in-SignExtend.ensures) refl

pub returns-in-LowBits : goal.returns-in-LowBits
returns-in-LowBits t c = rw (c.in-LowBits.is, rvalue_of_low_bits, c.operand_of-in-LowBits.ensures, c.get-in-LowBits.ensures) refl

pub returns-in-ZeroExtend : goal.returns-in-ZeroExtend
returns-in-ZeroExtend t c = if_ok c.rvalue_of.result (λ value is. is ∙ sym (rw (c.in-ZeroExtend.is, rvalue_of_zero_extend, c.get-in-ZeroExtend.ensures) refl)) c.rvalue_of.ensures
