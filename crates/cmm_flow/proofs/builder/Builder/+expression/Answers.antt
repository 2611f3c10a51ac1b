use Rattle.std.proofs.Common.{◌≡◌, ◌++◌, refl, ap, ◌∙◌, subst, sym}
use Rattle.cmm_graph.specs.declared.node.NodeKind.TheVariants.{Assign}
use Rattle.cmm_graph.specs.Covering.{least_for}
use Rattle.cmm_flow.specs.Code.{OperandCode}
use Rattle.cmm_flow.specs.inside.Laying.{LaysNode}
use Rattle.cmm_flow.specs.inside.Nodes.{nodes_of_operand, nodes_of_parts}
use Rattle.cmm_flow.specs.inside.Parts.{PartsCode, rvalue_of}
use Rattle.cmm_flow.proofs.Begins.{on_node, on_step, operand_begins, the_step}
use Rattle.cmm_flow.proofs.Laying.{lays_after, lays_as}
use Rattle.cmm_flow.proofs.ExpressionsStay.{node_stays, operand_stays}
use Rattle.cmm_flow.proofs.NodeLists.{nodes_of_binary, nodes_of_load, nodes_of_low_bits, nodes_of_sign_extend, nodes_of_unary, nodes_of_zero_extend, same_node}
use Rattle.cmm_flow.proofs.Values.{operand_at}
use Rattle.cmm_flow.proofs.ExpressionForms.{parts_of_load, parts_of_unary, parts_of_binary, parts_of_sign_extend, parts_of_zero_extend, parts_of_low_bits}
use Rattle.cmm_flow.proofs.Values.{value_code}
use Rattle.cmm_flow.proofs.builder.Builder.+expression.Goals as goal

pub value-returns : goal.value-returns
value-returns t c =
    let value = rvalue_of c.args.base c.args.e.now in
    let is_value = c.in_ok-value.ensures in
    let tokens : c.right_tokens.result ≡ least_for value = c.right_tokens.ensures ∙ ap least_for is_value in
    lays_after _ _ _ _ _ _ _ _ c.parts.result
    (subst (λ n. LaysNode n c.args.self.now c.push.new.self c.in_ok-node.node) (same_node tokens (ap (λ v. Assign c.args.to v c.args.next) is_value)) c.in_ok-node.ensures) (λ nodes more. node_stays nodes more c.in_ok-node.node _ _) c.parts.ensures
    refl
    (λ g is steps normal. on_node g c.in_ok-node.node _ _ is refl)
    (λ n nodes is parts. value_code nodes c.args.base c.args.to n c.in_ok-node.node c.args.next c.args.e.now parts is)

pub parts-returns-in-ZeroExtend : goal.parts-returns-in-ZeroExtend
parts-returns-in-ZeroExtend t c = lays_as _ _ _ _ _ _ _ _ _ c.parts.result c.parts.ensures
    (ap (nodes_of_parts c.args.base) c.get-in-ZeroExtend.ensures ∙ nodes_of_zero_extend c.args.base c.in-ZeroExtend.field-0 c.in-ZeroExtend.field-1 c.in-ZeroExtend.operand ∙ sym (ap (nodes_of_parts c.args.base) c.in-ZeroExtend.is))
    (λ n nodes parts.
    subst (λ e. PartsCode nodes e c.args.base n c.args.next) (sym c.in-ZeroExtend.is)
    (parts_of_zero_extend nodes c.args.base n c.args.next c.in-ZeroExtend.field-0 c.in-ZeroExtend.field-1 c.in-ZeroExtend.operand
    (subst (λ e. PartsCode nodes e c.args.base n c.args.next) c.get-in-ZeroExtend.ensures parts)))

pub parts-returns-in_ok-behind-in-Binary : goal.parts-returns-in_ok-behind-in-Binary
parts-returns-in_ok-behind-in-Binary t c =
    let base = c.args.base in let next = c.in_ok-following-in-Binary.field-0 in let behind = c.in_ok-behind-in-Binary.behind in
    let left = c.in-Binary.left in let right = c.in-Binary.right in
    lays_after _ _ _ _ _ _ _ _ c.operand-in-Binary-2.result c.in_ok-behind-in-Binary.ensures (λ nodes more. operand_stays nodes more c.get-in-Binary.result.now next behind c.args.next) c.operand-in-Binary-2.ensures
    (ap (λ e. nodes_of_operand base e ++ nodes_of_operand next c.get-in-Binary.result.now) c.get-in-Binary-2.ensures
    ∙ ap (λ e. nodes_of_operand base left ++ nodes_of_operand next e) c.get-in-Binary.ensures
    ∙ ap (λ n. nodes_of_operand base left ++ nodes_of_operand n right) c.in_ok-following-in-Binary.ensures
    ∙ nodes_of_binary base c.in-Binary.field-0 c.in-Binary.field-1 left right ∙ sym (ap (nodes_of_parts base) c.in-Binary.is))
    (λ g is steps normal. on_step g behind (operand_begins g c.get-in-Binary.result.now next behind c.args.next is (the_step g c.args.next steps)))
    (λ n nodes second first. subst (λ e. PartsCode nodes e base n c.args.next) (sym c.in-Binary.is)
    (parts_of_binary nodes base n c.args.next c.in-Binary.field-0 c.in-Binary.field-1 left right behind
    (subst (λ e. OperandCode nodes e base n behind) c.get-in-Binary-2.ensures first)
    (operand_at nodes behind c.args.next c.get-in-Binary.ensures c.in_ok-following-in-Binary.ensures second)))

pub parts-returns-in-Load : goal.parts-returns-in-Load
parts-returns-in-Load t c = lays_as _ _ _ _ _ _ _ _ _ c.operand.result c.operand.ensures
    (ap (nodes_of_operand c.args.base) c.get.ensures ∙ nodes_of_load c.args.base c.in-Load.width c.in-Load.aligned c.in-Load.address ∙ sym (ap (nodes_of_parts c.args.base) c.in-Load.is))
    (λ n nodes part.
    subst (λ e. PartsCode nodes e c.args.base n c.args.next) (sym c.in-Load.is)
    (parts_of_load nodes c.args.base n c.args.next c.in-Load.width c.in-Load.aligned c.in-Load.address
    (subst (λ e. OperandCode nodes e c.args.base n c.args.next) c.get.ensures part)))

pub parts-returns-in-Unary : goal.parts-returns-in-Unary
parts-returns-in-Unary t c = lays_as _ _ _ _ _ _ _ _ _ c.operand-in-Unary.result c.operand-in-Unary.ensures
    (ap (nodes_of_operand c.args.base) c.get-in-Unary.ensures ∙ nodes_of_unary c.args.base c.in-Unary.field-0 c.in-Unary.field-1 c.in-Unary.operand ∙ sym (ap (nodes_of_parts c.args.base) c.in-Unary.is))
    (λ n nodes part.
    subst (λ e. PartsCode nodes e c.args.base n c.args.next) (sym c.in-Unary.is)
    (parts_of_unary nodes c.args.base n c.args.next c.in-Unary.field-0 c.in-Unary.field-1 c.in-Unary.operand
    (subst (λ e. OperandCode nodes e c.args.base n c.args.next) c.get-in-Unary.ensures part)))

pub parts-returns-in-SignExtend : goal.parts-returns-in-SignExtend
parts-returns-in-SignExtend t c = lays_as _ _ _ _ _ _ _ _ _ c.operand-in-SignExtend.result c.operand-in-SignExtend.ensures
    (ap (nodes_of_operand c.args.base) c.get-in-SignExtend.ensures ∙ nodes_of_sign_extend c.args.base c.in-SignExtend.field-0 c.in-SignExtend.field-1 c.in-SignExtend.operand ∙ sym (ap (nodes_of_parts c.args.base) c.in-SignExtend.is))
    (λ n nodes part.
    subst (λ e. PartsCode nodes e c.args.base n c.args.next) (sym c.in-SignExtend.is)
    (parts_of_sign_extend nodes c.args.base n c.args.next c.in-SignExtend.field-0 c.in-SignExtend.field-1 c.in-SignExtend.operand
    (subst (λ e. OperandCode nodes e c.args.base n c.args.next) c.get-in-SignExtend.ensures part)))

pub parts-returns-in-LowBits : goal.parts-returns-in-LowBits
parts-returns-in-LowBits t c = lays_as _ _ _ _ _ _ _ _ _ c.operand-in-LowBits.result c.operand-in-LowBits.ensures
    (ap (nodes_of_operand c.args.base) c.get-in-LowBits.ensures ∙ nodes_of_low_bits c.args.base c.in-LowBits.field-0 c.in-LowBits.field-1 c.in-LowBits.operand ∙ sym (ap (nodes_of_parts c.args.base) c.in-LowBits.is))
    (λ n nodes part.
    subst (λ e. PartsCode nodes e c.args.base n c.args.next) (sym c.in-LowBits.is)
    (parts_of_low_bits nodes c.args.base n c.args.next c.in-LowBits.field-0 c.in-LowBits.field-1 c.in-LowBits.operand
    (subst (λ e. OperandCode nodes e c.args.base n c.args.next) c.get-in-LowBits.ensures part)))
