use Rattle.std.proofs.Common.{ap, refl, subst}
use Rattle.cmm_graph.specs.declared.node.HostCall.TheVariants.{PutByte}
use Rattle.cmm_graph.specs.declared.node.NodeKind.TheVariants.{Host}
use Rattle.cmm_flow.specs.Operands.{operand_of}
use Rattle.cmm_flow.specs.inside.Laying.{LaysNode}
use Rattle.cmm_flow.proofs.Begins.{on_node}
use Rattle.cmm_flow.proofs.Laying.{lays_after}
use Rattle.cmm_flow.proofs.ExpressionsStay.{node_stays}
use Rattle.cmm_flow.proofs.NodeLists.{same_node}
use Rattle.cmm_flow.proofs.builder.Builder.put_byte.Goals as goal

pub returns : goal.returns
returns c =
    let node = c.in_ok-node.node in let kind = Host (PutByte (operand_of 0 c.args.value.now)) c.args.next in
    lays_after _ _ _ _ _ _ _ _ c.operand.result
    (subst (λ n. LaysNode n c.args.self.now c.push.new.self node) (same_node refl (ap (λ o. Host (PutByte o) c.args.next) c.operand_of.ensures)) c.in_ok-node.ensures)
    (λ nodes more. node_stays nodes more node 1 kind) c.operand.ensures refl (λ g is steps normal. on_node g node 1 kind is refl)
    (λ n nodes is code. (node, code, is))
