use Rattle.std.proofs.Common.{ap, refl, subst}
use Rattle.cmm_graph.specs.declared.node.NodeKind.TheVariants as kinds
use Rattle.cmm_flow.specs.Operands.{arguments_of, nodes_of_all}
use Rattle.cmm_flow.specs.Statements.{remaining}
use Rattle.cmm_flow.specs.inside.Laying.{LaysNode}
use Rattle.cmm_flow.proofs.Begins.{on_node}
use Rattle.cmm_flow.proofs.Laying.{lays_after}
use Rattle.cmm_flow.proofs.ExpressionsStay.{node_stays}
use Rattle.cmm_flow.proofs.NodeLists.{same_node}
use Rattle.cmm_flow.proofs.Passing.{return_code}
use Rattle.cmm_flow.proofs.builder.Builder.returns.Goals as goal

pub returns : goal.returns
returns c =
    let node = c.in_ok-node.node in let values = c.args.values.now in
    let count = remaining c.args.tokens (nodes_of_all values) in
    let kind = kinds.Return c.args.exit c.args.alternates (arguments_of 0 values) in
    let kinds_are = ap (λ as_. kinds.Return c.args.exit c.args.alternates as_) c.in_ok-results.ensures in
    lays_after _ _ _ _ _ _ _ _ c.operands.result
    (subst (λ n. LaysNode n c.args.self.now c.push.new.self node) (same_node (c.remaining.ensures (nodes_of_all values) c.nodes_of_all-used.ensures) kinds_are) c.in_ok-node.ensures)
    (λ nodes more. node_stays nodes more node count kind) c.operands.ensures refl (λ g is steps normal. on_node g node count kind is refl)
    (λ n now is passing. return_code now c.args.tokens c.args.exit c.args.alternates values (arguments_of 0 values) count n node refl refl is passing)
