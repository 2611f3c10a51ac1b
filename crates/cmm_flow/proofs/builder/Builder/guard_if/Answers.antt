use Rattle.std.proofs.Common.{◌∙◌, sym}
use Rattle.cmm_flow.specs.Statements.{operator_nodes}
use Rattle.cmm_flow.specs.inside.Passing.{GuardCode}
use Rattle.cmm_flow.proofs.Laying.{if_ok, lays_nothing, lays_other}
use Rattle.cmm_flow.proofs.Divisions.{guarded, unguarded}
use Rattle.cmm_flow.proofs.NodeLists.{guard_needed}
use Rattle.cmm_flow.proofs.builder.Builder.guard_if.Goals as goal

pub returns-then-is_division : goal.returns-then-is_division
returns-then-is_division c =
    let q = c.args.q.now in let used = operator_nodes c.args.width c.args.left.now c.args.right.now in let right = c.args.right.now in
    let needed = sym c.is_division.ensures ∙ c.if-is_division.true in
    if_ok c.guard.result (λ n laid.
    lays_other (λ nodes. GuardCode nodes q c.args.tokens used c.args.site c.args.operator c.args.width right n c.args.division c.args.next)
    (laid used c.operator_nodes-used.ensures)
    (guard_needed q c.args.tokens used c.args.site c.args.operator c.args.width right needed)
    (λ nodes is. guarded nodes q c.args.tokens used c.args.site c.args.operator c.args.width right n c.args.division c.args.next needed is)) c.guard.ensures

pub returns-else-is_division : goal.returns-else-is_division
returns-else-is_division c = lays_nothing _ _ (λ nodes. unguarded nodes c.args.q.now c.args.tokens (operator_nodes c.args.width c.args.left.now c.args.right.now) c.args.site
    c.args.operator c.args.width c.args.right.now c.args.division c.args.next (sym c.is_division.ensures ∙ c.if-is_division.false))
