use Rattle.std.proofs.Common.{◌≡◌, ap, ◌∙◌, refl, subst}
use Rattle.cmm_flow.specs.Operands.{operand_of}
use Rattle.cmm_flow.specs.inside.Laying.{LaysNode}
use Rattle.cmm_flow.specs.Code.{IsNode}
use Rattle.cmm_flow.specs.inside.Parts.{store_node, store_tokens}
use Rattle.cmm_flow.proofs.Assignments.{assign_memory}
use Rattle.cmm_flow.proofs.Begins.{store_begins}
use Rattle.cmm_flow.proofs.ExpressionsStay.{node_stays}
use Rattle.cmm_flow.proofs.Laying.{lays_after}
use Rattle.cmm_flow.proofs.NodeLists.{one_stored, same_node, store_laid}
use Rattle.cmm_flow.proofs.builder.Builder.assign_one.Goals as goal

pub returns-in_ok-node-in-Memory : goal.returns-in_ok-node-in-Memory
returns-in_ok-node-in-Memory c =
    let to = c.args.to.now in let address = c.in-Memory.address in let value = c.args.value.now in let node = c.in_ok-node-in-Memory.node in
    let l = operand_of 0 address in let r = operand_of 1 value in
    let is : c.store_of-store.result ≡ store_node to l r c.args.next =
    c.store_of-store.ensures ∙ ap (λ l. store_node to l c.operand_of-in-Memory.result c.args.next) c.operand_of.ensures
    ∙ ap (λ r. store_node to l r c.args.next) c.operand_of-in-Memory.ensures in
    lays_after _ _ _ _ _ _ _ _ c.two.result
    (store_laid to l r c.args.next node (subst (λ n. LaysNode n c.args.self.now c.push.new.self node) (same_node c.store_tokens.ensures is) c.in_ok-node-in-Memory.ensures))
    (λ nodes more. node_stays nodes more node (store_tokens to) (store_node to l r c.args.next)) c.two.ensures (one_stored to c.in-Memory.width c.in-Memory.aligned address value c.in-Memory.is)
    (λ g code steps normal. store_begins g to l r node c.args.next code)
    (λ n nodes code two. assign_memory nodes to c.in-Memory.width c.in-Memory.aligned address value l r (store_node to l r c.args.next) n node c.args.next c.in-Memory.is refl
    refl refl (subst (λ t. IsNode nodes node t (store_node to l r c.args.next)) (ap store_tokens c.in-Memory.is) code) two)
