use Rattle.std.proofs.Common.{◌∙◌, ◌+◌, ap, refl, sym}
use Rattle.cmm_graph.specs.Covering.{access_tokens, operator_tokens}
use Rattle.cmm_flow.specs.Operands.{nodes, operand_of}
use Rattle.cmm_flow.specs.inside.Counts.{capped}
use Rattle.cmm_flow.proofs.ExpressionForms.{access_capped, operator_capped, nodes_of_load, nodes_of_unary, nodes_of_binary, nodes_of_sign_extend, nodes_of_zero_extend, nodes_of_low_bits}
use Rattle.cmm_flow.proofs.counts.+nodes_of.Goals as goal

pub returns-in-Load : goal.returns-in-Load
returns-in-Load t c =
    c.sum.ensures (nodes c.in-Load.address) (access_tokens c.in-Load.width c.in-Load.aligned) (c.nodes_of.ensures ∙ ap (λ e. capped (nodes e)) c.get.ensures)
    (c.access_tokens.ensures ∙ access_capped c.in-Load.width c.in-Load.aligned)
    ∙ ap capped (sym (ap nodes c.in-Load.is ∙ nodes_of_load c.in-Load.width c.in-Load.aligned c.in-Load.address))

pub returns-in-Unary : goal.returns-in-Unary
returns-in-Unary t c =
    c.sum-in-Unary.ensures (nodes c.in-Unary.operand) 1 (c.nodes_of-in-Unary.ensures ∙ ap (λ e. capped (nodes e)) c.get-in-Unary.ensures) refl
    ∙ ap capped (sym (ap nodes c.in-Unary.is ∙ nodes_of_unary c.in-Unary.field-0 c.in-Unary.field-1 c.in-Unary.operand))

pub returns-in-SignExtend : goal.returns-in-SignExtend
returns-in-SignExtend t c =
    c.sum-in-SignExtend.ensures (nodes c.in-SignExtend.operand) 1 (c.nodes_of-in-SignExtend.ensures ∙ ap (λ e. capped (nodes e)) c.get-in-SignExtend.ensures) refl
    ∙ ap capped (sym (ap nodes c.in-SignExtend.is ∙ nodes_of_sign_extend c.in-SignExtend.field-0 c.in-SignExtend.field-1 c.in-SignExtend.operand))

pub returns-in-LowBits : goal.returns-in-LowBits
returns-in-LowBits t c =
    c.sum-in-LowBits.ensures (nodes c.in-LowBits.operand) 1 (c.nodes_of-in-LowBits.ensures ∙ ap (λ e. capped (nodes e)) c.get-in-LowBits.ensures) refl
    ∙ ap capped (sym (ap nodes c.in-LowBits.is ∙ nodes_of_low_bits c.in-LowBits.field-0 c.in-LowBits.field-1 c.in-LowBits.operand))

pub returns-in-ZeroExtend : goal.returns-in-ZeroExtend
returns-in-ZeroExtend t c =
    c.nodes_of-in-ZeroExtend.ensures ∙ ap (λ e. capped (nodes e)) c.get-in-ZeroExtend.ensures
    ∙ ap capped (sym (ap nodes c.in-ZeroExtend.is ∙ nodes_of_zero_extend c.in-ZeroExtend.field-0 c.in-ZeroExtend.field-1 c.in-ZeroExtend.operand))

pub returns-in-Binary : goal.returns-in-Binary
returns-in-Binary t c =
    let width = c.in-Binary.width in let left = c.in-Binary.left in let right = c.in-Binary.right in
    c.sum-in-Binary-2.ensures (nodes left + nodes right) (operator_tokens width (operand_of 0 left) (operand_of 1 right))
    (c.sum-in-Binary.ensures (nodes left) (nodes right)
    (c.nodes_of-in-Binary.ensures ∙ ap (λ e. capped (nodes e)) c.get-in-Binary.ensures) (c.nodes_of-in-Binary-2.ensures ∙ ap (λ e. capped (nodes e)) c.get-in-Binary-2.ensures))
    (c.tokens_of_operator.ensures ∙ ap (λ e. operator_tokens width (operand_of 0 e) (operand_of 1 c.get-in-Binary-4.result.now)) c.get-in-Binary-3.ensures
    ∙ ap (λ e. operator_tokens width (operand_of 0 left) (operand_of 1 e)) c.get-in-Binary-4.ensures ∙ operator_capped width (operand_of 0 left) (operand_of 1 right))
    ∙ ap capped (sym (ap nodes c.in-Binary.is ∙ nodes_of_binary c.in-Binary.field-0 width left right))
