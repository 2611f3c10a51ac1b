use Rattle.std.proofs.Common.{List, refl}
use Rattle.cmm_graph.specs.declared.node.Node.{Node}
use Rattle.cmm_graph.specs.declared.node.NodeKind.TheVariants as kinds
use Rattle.cmm_graph.specs.declared.operand.Rvalue.TheVariants.{Binary}
use Rattle.cmm_program.specs.Todo.{site_results}
use Rattle.cmm_graph.specs.Covering.{operator_tokens}
use Rattle.cmm_flow.specs.Operands.{operand_of}
use Rattle.cmm_flow.specs.Code.{IsNode}
use Rattle.cmm_flow.specs.Statements.{first_result, operator_nodes}
use Rattle.cmm_flow.specs.inside.Passing.{GuardCode}
use Rattle.cmm_flow.proofs.Begins.{guard_begins, node_begins, on_step, on_two, the_step}
use Rattle.cmm_flow.proofs.Laying.{lays_after, then_lays}
use Rattle.cmm_flow.proofs.ExpressionsStay.{node_stays}
use Rattle.cmm_flow.proofs.Divisions.{guard_stays, checked_code}
use Rattle.cmm_flow.proofs.builder.Builder.checked.Goals as goal

pub returns : goal.returns
returns c =
    let q = c.args.q.now in let d = c.in_ok-division.division in let j = c.in_ok-first.first in let used = operator_nodes c.args.width c.args.left.now c.args.right.now in
    let divides = operator_tokens c.args.width (operand_of 0 c.args.left.now) (operand_of 1 c.args.right.now) in
    let kind = kinds.Assign (first_result (site_results q c.args.site)) (Binary c.args.operator c.args.width (operand_of 0 c.args.left.now) (operand_of 1 c.args.right.now)) c.args.next in
    let keep = λ (nodes more : List Node). node_stays nodes more d divides kind in
    lays_after _ _ _ _ _ _ _ _ c.two.result
    (then_lays (λ nodes. IsNode nodes d divides kind × GuardCode nodes q c.args.tokens used c.args.site c.args.operator c.args.width c.args.right.now j d c.args.next)
    c.in_ok-division.ensures c.in_ok-first.ensures keep
    (λ g is steps normal. on_two g d c.args.next (node_begins g d divides kind is refl) (the_step g c.args.next steps)) (λ nodes a b. (a, b)))
    (λ nodes more both. (keep nodes more both.0, guard_stays nodes more q c.args.tokens used c.args.site c.args.operator c.args.width c.args.right.now j d c.args.next both.1))
    c.two.ensures refl
    (λ g both steps normal. on_step g j
    (guard_begins g q c.args.tokens used c.args.site c.args.operator c.args.width c.args.right.now j d c.args.next both.1 (node_begins g d divides kind both.0 refl)))
    (λ n nodes both two. checked_code nodes q c.args.tokens c.args.site c.args.operator c.args.width c.args.left.now c.args.right.now n j d c.args.next both.0 both.1 two)
