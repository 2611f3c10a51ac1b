use Rattle.std.proofs.Common.{IfOk, ◌∙◌, ap, subst}
use Rattle.cmm_graph.specs.declared.node.NodeKind.TheVariants as kinds
use Rattle.cmm_graph.specs.declared.operand.Rvalue.TheVariants.{Binary}
use Rattle.cmm_program.specs.Todo.{site_results}
use Rattle.cmm_flow.specs.Operands.{operand_of}
use Rattle.cmm_flow.specs.Statements.{first_result}
use Rattle.cmm_flow.specs.inside.Laying.{LaysNode}
use Rattle.cmm_flow.proofs.NodeLists.{same_node}
use Rattle.cmm_flow.proofs.builder.Builder.division.Goals as goal

pub returns : goal.returns
returns c =
    let to = first_result (site_results c.args.q.now c.args.site) in
    subst (λ node. IfOk c.push.result (λ n. LaysNode node c.args.self.now c.push.new.self n)) (same_node c.tokens_of_operator.ensures
    (ap (λ to. kinds.Assign to (Binary c.args.operator c.args.width c.operand_of.result c.operand_of-2.result) c.args.next) c.first_result-to.ensures
    ∙ ap (λ l. kinds.Assign to (Binary c.args.operator c.args.width l c.operand_of-2.result) c.args.next) c.operand_of.ensures
    ∙ ap (λ r. kinds.Assign to (Binary c.args.operator c.args.width (operand_of 0 c.args.left.now) r) c.args.next) c.operand_of-2.ensures)) c.push.ensures
