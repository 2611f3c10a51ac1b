use Rattle.std.proofs.Common.{List, ◌+◌, ap, map, refl, subst, ◌∙◌}
use Rattle.cmm_graph.specs.declared.node.NodeKind.TheVariants as kinds
use Rattle.cmm_graph.specs.declared.number.ContinuationId.{ContinuationId}
use Rattle.cmm_flow.specs.Operands.{arguments_of, nodes, nodes_of_all, operand_of}
use Rattle.cmm_flow.specs.Statements.{remaining}
use Rattle.cmm_flow.specs.inside.Laying.{LaysNode}
use Rattle.cmm_flow.proofs.Begins.{on_node}
use Rattle.cmm_flow.proofs.Laying.{lays_after}
use Rattle.cmm_flow.proofs.ExpressionsStay.{node_stays}
use Rattle.cmm_flow.proofs.NodeLists.{same_node}
use Rattle.cmm_flow.proofs.Passing.{cut_code}
use Rattle.cmm_flow.proofs.builder.Builder.cut.Goals as goal

pub returns : goal.returns
returns c =
    let node = c.in_ok-node.node in let to = c.args.to.now in let values = c.args.values.now in let own : List ContinuationId = map (λ k. record { number = k }) c.args.own.now in
    let count = remaining c.args.tokens (nodes to + nodes_of_all values) in
    let kind = kinds.Cut (operand_of 0 to) (arguments_of 1 values) own in
    let kinds_are = ap (λ at. kinds.Cut at c.in_ok-arguments.arguments c.in_ok-own.own) c.operand_of.ensures ∙ ap (λ as_. kinds.Cut (operand_of 0 to) as_ c.in_ok-own.own) c.in_ok-arguments.ensures
    ∙ ap (λ ks. kinds.Cut (operand_of 0 to) (arguments_of 1 values) ks) c.in_ok-own.ensures in
    lays_after _ _ _ _ _ _ _ _ c.passing.result
    (subst (λ n. LaysNode n c.args.self.now c.push.new.self node) (same_node (c.remaining.ensures (nodes to + nodes_of_all values) (c.sum-used.ensures (nodes to) (nodes_of_all values) c.nodes_of.ensures c.nodes_of_all.ensures)) kinds_are) c.in_ok-node.ensures)
    (λ nodes more. node_stays nodes more node count kind) c.passing.ensures refl (λ g is steps normal. on_node g node count kind is refl)
    (λ n now is passing. cut_code now c.args.tokens to values c.args.own.now (operand_of 0 to) (arguments_of 1 values) own count n node refl refl refl refl is passing)
