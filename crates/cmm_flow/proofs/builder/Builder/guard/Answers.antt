use Rattle.std.proofs.Common.{IfOk, ◌≡◌, ◌+◌, ap, refl, slice_get, subst}
use Rattle.cmm_words.specs.declared.constant.Constant.TheVariants.{Number}
use Rattle.cmm_words.specs.declared.operators.Cmp.TheVariants.{Eq}
use Rattle.cmm_graph.specs.declared.node.NodeKind.TheVariants.{Branch}
use Rattle.cmm_graph.specs.declared.operand.Operand.TheVariants.{Constant}
use Rattle.cmm_flow.specs.Operands.{operand_of}
use Rattle.cmm_flow.specs.Statements.{normal_tokens}
use Rattle.cmm_flow.specs.inside.Laying.{LaysNode}
use Rattle.cmm_flow.proofs.Laying.{if_ok}
use Rattle.cmm_flow.proofs.Divisions.{guard_laid}
use Rattle.cmm_flow.proofs.NodeLists.{same_node}
use Rattle.cmm_flow.proofs.builder.Builder.guard.Goals as goal

pub returns : goal.returns
returns c =
    let q = c.args.q.now in let there = slice_get q.sites c.args.site in let y = c.in_ok-yields.yields in let width = c.args.width in
    let kind = Branch record { operator = Eq; width = width; left = operand_of 1 c.args.divisor.now; right = Constant (Number 0 width) } y c.args.division in
    let kinds_are : _ ≡ kind = ap (λ l. Branch record { operator = Eq; width = width; left = l; right = Constant (Number 0 width) } y c.args.division) c.operand_of.ensures in
    if_ok {P = λ n. LaysNode record { tokens = 1; kind = kind } c.yield_one.new.self c.push.new.self n} c.push.result
    (λ n test count is.
    guard_laid q c.args.tokens count c.args.site c.remaining.result width c.args.divisor.now n y c.args.division c.args.next c.in_ok-yields.ensures test
    (c.remaining.ensures (count + 1 + normal_tokens there) (c.sum-spent.ensures (count + 1) (normal_tokens there) (c.sum.ensures count 1 is refl) c.normal_tokens_at.ensures)))
    (subst (λ node. IfOk c.push.result (λ n. LaysNode node c.yield_one.new.self c.push.new.self n)) (same_node refl kinds_are) c.push.ensures)
