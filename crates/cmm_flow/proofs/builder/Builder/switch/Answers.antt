use Rattle.std.proofs.Common.{ap, refl, reverse, subst, ◌∙◌}
use Rattle.cmm_graph.specs.declared.node.NodeKind.TheVariants.{Switch}
use Rattle.cmm_flow.specs.Operands.{nodes, operand_of}
use Rattle.cmm_flow.specs.Statements.{remaining}
use Rattle.cmm_flow.specs.inside.Laying.{LaysNode}
use Rattle.cmm_flow.proofs.Begins.{on_node}
use Rattle.cmm_flow.proofs.Laying.{lays_after}
use Rattle.cmm_flow.proofs.ExpressionsStay.{node_stays}
use Rattle.cmm_flow.proofs.NodeLists.{same_node}
use Rattle.cmm_flow.proofs.builder.Builder.switch.Goals as goal

pub returns : goal.returns
returns c =
    let node = c.in_ok-node.node in let value = c.args.value.now in
    let ways = reverse c.args.ways.backward in let otherwise = c.args.ways.otherwise in
    let count = remaining c.args.tokens (nodes value) in
    let kind = Switch (operand_of 0 value) ways otherwise in
    let kinds_are = ap (λ o. Switch o c.reversed.result otherwise) c.operand_of.ensures ∙ ap (λ ways. Switch (operand_of 0 value) ways otherwise) c.reversed.ensures in
    lays_after _ _ _ _ _ _ _ _ c.operand.result
    (subst (λ n. LaysNode n c.args.self.now c.push.new.self node) (same_node (c.remaining.ensures (nodes value) c.nodes_of.ensures) kinds_are) c.in_ok-node.ensures)
    (λ nodes more. node_stays nodes more node count kind) c.operand.ensures refl (λ g is steps normal. on_node g node count kind is refl)
    (λ n all is code. (node, code, is))
