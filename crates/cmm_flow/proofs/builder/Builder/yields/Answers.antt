use Rattle.std.proofs.Common.{List, ◌+◌, ap, refl, slice_get, subst}
use Rattle.cmm_graph.specs.declared.node.Node.{Node}
use Rattle.cmm_graph.specs.declared.node.NodeKind.TheVariants as kinds
use Rattle.cmm_flow.specs.Operands.{nodes_of_all, operands_of}
use Rattle.cmm_flow.specs.Code.{IsNode}
use Rattle.cmm_flow.specs.Statements.{normal_tokens, remaining}
use Rattle.cmm_flow.specs.inside.Laying.{LaysNode}
use Rattle.cmm_flow.specs.inside.Passing.{ExitsLead}
use Rattle.cmm_flow.proofs.Begins.{normal_leads, on_node}
use Rattle.cmm_flow.proofs.Laying.{lays_after, then_lays}
use Rattle.cmm_flow.proofs.ExpressionsStay.{node_stays}
use Rattle.cmm_flow.proofs.NodeLists.{same_node}
use Rattle.cmm_flow.proofs.Passing.{lead_stays, yield_code}
use Rattle.cmm_flow.proofs.builder.Builder.yields.Goals as goal

pub returns : goal.returns
returns c =
    let there = slice_get c.args.q.now.sites c.args.site in let exits = c.in_ok-exits.exits in let node = c.in_ok-node.node in
    let values = c.args.values.now in
    let count = remaining c.args.tokens (nodes_of_all values + normal_tokens there) in
    let kind = kinds.Yield record { number = c.args.site } (operands_of 0 values) exits in
    let keep = λ (nodes more : List Node). lead_stays nodes more there exits c.args.next in
    let counts = c.remaining.ensures (nodes_of_all values + normal_tokens there)
    (c.sum-used.ensures (nodes_of_all values) (normal_tokens there) c.nodes_of_all.ensures c.normal_tokens_at.ensures) in
    let kinds_are = ap (λ os. kinds.Yield record { number = c.args.site } os exits) c.in_ok-passed.ensures in
    lays_after _ _ _ _ _ _ _ _ c.operands.result
    (then_lays (λ nodes. ExitsLead nodes there exits c.args.next × IsNode nodes node count kind) c.in_ok-exits.ensures
    (subst (λ n. LaysNode n c.exits_at.new.self c.push.new.self node) (same_node counts kinds_are) c.in_ok-node.ensures) keep
    (λ g is steps normal. (refl, normal_leads g exits.normal is.1)) (λ nodes a b. (a, b)))
    (λ nodes more both. (keep nodes more both.0, node_stays nodes more node count kind both.1)) c.operands.ensures refl
    (λ g both steps normal. on_node g node count kind both.1 refl)
    (λ n now both passing. yield_code now c.args.q.now c.args.tokens c.args.site values exits (operands_of 0 values) count n node c.args.next
    refl refl both.0.0 both.1 passing)
