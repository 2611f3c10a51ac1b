use Rattle.std.proofs.Common.{◌+◌, ap, refl, subst, ◌∙◌}
use Rattle.cmm_graph.specs.declared.node.NodeKind.TheVariants as kinds
use Rattle.cmm_flow.specs.Operands.{arguments_of, nodes, nodes_of_all, operand_of}
use Rattle.cmm_flow.specs.Statements.{remaining}
use Rattle.cmm_flow.specs.inside.Laying.{LaysNode}
use Rattle.cmm_flow.proofs.Begins.{on_node}
use Rattle.cmm_flow.proofs.Laying.{lays_after}
use Rattle.cmm_flow.proofs.ExpressionsStay.{node_stays}
use Rattle.cmm_flow.proofs.NodeLists.{same_node}
use Rattle.cmm_flow.proofs.Passing.{jump_code}
use Rattle.cmm_flow.proofs.builder.Builder.jump.Goals as goal

pub returns : goal.returns
returns c =
    let node = c.in_ok-node.node in let callee = c.args.callee.now in let actuals = c.args.actuals.now in
    let count = remaining c.args.tokens (nodes callee + nodes_of_all actuals) in
    let kind = kinds.Jump (operand_of 0 callee) (arguments_of 1 actuals) in
    let kinds_are = ap (λ to. kinds.Jump to c.in_ok-arguments.arguments) c.operand_of.ensures ∙ ap (λ as_. kinds.Jump (operand_of 0 callee) as_) c.in_ok-arguments.ensures in
    lays_after _ _ _ _ _ _ _ _ c.passing.result
    (subst (λ n. LaysNode n c.args.self.now c.push.new.self node) (same_node (c.remaining.ensures (nodes callee + nodes_of_all actuals) (c.sum-used.ensures (nodes callee) (nodes_of_all actuals) c.nodes_of.ensures c.nodes_of_all.ensures)) kinds_are) c.in_ok-node.ensures)
    (λ nodes more. node_stays nodes more node count kind) c.passing.ensures refl (λ g is steps normal. on_node g node count kind is refl)
    (λ n now is passing. jump_code now c.args.tokens callee actuals (operand_of 0 callee) (arguments_of 1 actuals) count n node refl refl refl is passing)
