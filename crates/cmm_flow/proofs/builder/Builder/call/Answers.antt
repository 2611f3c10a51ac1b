use Rattle.std.proofs.Common.{List, ◌+◌, ap, refl, slice_get, subst, ◌∙◌}
use Rattle.cmm_graph.specs.declared.node.Node.{Node}
use Rattle.cmm_graph.specs.declared.node.NodeKind.TheVariants as kinds
use Rattle.cmm_flow.specs.Operands.{arguments_of, nodes, nodes_of_all, operand_of}
use Rattle.cmm_flow.specs.Code.{IsNode}
use Rattle.cmm_flow.specs.Statements.{normal_tokens, remaining}
use Rattle.cmm_flow.specs.inside.Laying.{LaysNode}
use Rattle.cmm_flow.specs.inside.Passing.{ExitsLead}
use Rattle.cmm_flow.proofs.Begins.{normal_leads, on_node}
use Rattle.cmm_flow.proofs.Laying.{lays_after, then_lays}
use Rattle.cmm_flow.proofs.ExpressionsStay.{node_stays}
use Rattle.cmm_flow.proofs.NodeLists.{same_node}
use Rattle.cmm_flow.proofs.Passing.{call_code, lead_stays}
use Rattle.cmm_flow.proofs.builder.Builder.call.Goals as goal

pub returns : goal.returns
returns c =
    let there = slice_get c.args.q.now.sites c.args.site in let exits = c.in_ok-exits.exits in let node = c.in_ok-node.node in
    let callee = c.args.callee.now in let actuals = c.args.actuals.now in
    let used = nodes callee + nodes_of_all actuals in
    let count = remaining c.args.tokens (used + normal_tokens there) in
    let kind = kinds.Call record { number = c.args.site } (operand_of 0 callee) (arguments_of 1 actuals) exits in
    let keep = λ (nodes more : List Node). lead_stays nodes more there exits c.args.next in
    let counts = c.remaining.ensures (used + normal_tokens there)
    (c.sum-used.ensures used (normal_tokens there) (c.sum-operands.ensures (nodes callee) (nodes_of_all actuals) c.nodes_of.ensures c.nodes_of_all.ensures) c.normal_tokens_at.ensures) in
    let kinds_are = ap (λ to. kinds.Call record { number = c.args.site } to c.in_ok-arguments.arguments exits) c.operand_of.ensures
    ∙ ap (λ as_. kinds.Call record { number = c.args.site } (operand_of 0 callee) as_ exits) c.in_ok-arguments.ensures in
    lays_after _ _ _ _ _ _ _ _ c.passing.result
    (then_lays (λ nodes. ExitsLead nodes there exits c.args.next × IsNode nodes node count kind) c.in_ok-exits.ensures
    (subst (λ n. LaysNode n c.exits_at.new.self c.push.new.self node) (same_node counts kinds_are) c.in_ok-node.ensures) keep
    (λ g is steps normal. (refl, normal_leads g exits.normal is.1)) (λ nodes a b. (a, b)))
    (λ nodes more both. (keep nodes more both.0, node_stays nodes more node count kind both.1)) c.passing.ensures refl
    (λ g both steps normal. on_node g node count kind both.1 refl)
    (λ n now both passing. call_code now c.args.q.now c.args.tokens c.args.site callee actuals exits (operand_of 0 callee) (arguments_of 1 actuals) count n node c.args.next
    refl refl refl both.0.0 both.1 passing)
