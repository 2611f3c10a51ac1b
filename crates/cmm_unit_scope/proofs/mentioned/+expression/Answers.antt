use Rattle.std.proofs.Common.{◌++◌, ◌∙◌, map, ap, refl, sym}
use Rattle.cmm_ast.specs.declared.expression.PrimForm.{PrimForm}
use Rattle.cmm_static_semantics.specs.Mentions.{values_alone, expr_names, prim_names}
use Rattle.cmm_symbols.specs.Numbering.{numbering}
use Rattle.cmm_symbols.specs.Shown.{shown}
use Rattle.cmm_static_semantics.proofs.Shared.{infix_law, prefix_law, named_law, bracketed_law, memory_law}
use Rattle.cmm_unit_scope.specs.inside.Numbered.{numbers_in}
use Rattle.cmm_unit_scope.proofs.Listed.{added_twice, numbers_append, operands_next}
use Rattle.cmm_unit_scope.proofs.mentioned.+expression.Goals as goal

pub add_expr-returns-in_ok-add_expr-in-Infix-2 : goal.add_expr-returns-in_ok-add_expr-in-Infix-2
add_expr-returns-in_ok-add_expr-in-Infix-2 t c =
    let ns = numbering (map shown c.args.table.now.declared) in
    added_twice c.args.to.now (numbers_in ns (expr_names values_alone c.in-Infix.left)) (numbers_in ns (expr_names values_alone c.in-Infix.right)) _ c.add_expr.new.to c.add_expr-in-Infix.new.to
    (rw c.get.ensures at c.in_ok-add_expr-in-Infix.ensures) (rw c.get-in-Infix.ensures at c.in_ok-add_expr-in-Infix-2.ensures)
    (ap (numbers_in ns) (infix_law values_alone c.args.e.now c.in-Infix.left c.in-Infix.operator c.in-Infix.right c.in-Infix.is)
    ∙ numbers_append ns (expr_names values_alone c.in-Infix.left) (expr_names values_alone c.in-Infix.right))

pub add_expr-returns-in_ok-add_expr-in-Prefix : goal.add_expr-returns-in_ok-add_expr-in-Prefix
add_expr-returns-in_ok-add_expr-in-Prefix t c =
    rw (prefix_law values_alone c.args.e.now c.in-Prefix.operator c.in-Prefix.operand c.in-Prefix.is, c.in_ok-add_expr-in-Prefix.ensures, c.get-in-Prefix.ensures) refl

pub add_expr-returns-in_ok-add_operands-in-Named : goal.add_expr-returns-in_ok-add_operands-in-Named
add_expr-returns-in_ok-add_operands-in-Named t c =
    rw (named_law values_alone c.args.e.now c.in-Named.operator c.in-Named.operands c.in-Named.is, c.in_ok-add_operands-in-Named.ensures, c.as_slice.ensures) refl

pub add_prim-returns-in_ok-add_name-in-Name : goal.add_prim-returns-in_ok-add_name-in-Name
add_prim-returns-in_ok-add_name-in-Name t c = λ token.
    c.in_ok-add_name-in-Name.ensures token
    ∙ ap (λ (p : PrimForm). c.args.to.now ++ numbers_in (numbering (map shown c.args.table.now.declared)) (prim_names values_alone token p)) (sym c.in-Name.is)

pub add_prim-returns-in_ok-add_expr-in-Bracketed : goal.add_prim-returns-in_ok-add_expr-in-Bracketed
add_prim-returns-in_ok-add_expr-in-Bracketed t c = λ token.
    rw (bracketed_law values_alone token c.args.prim.now c.in-Bracketed.inner c.in-Bracketed.is, c.in_ok-add_expr-in-Bracketed.ensures, c.get.ensures) refl

pub add_memory-returns : goal.add_memory-returns
add_memory-returns t c = rw (memory_law values_alone c.args.memory.now, c.in_ok-add_expr.ensures, c.get.ensures) refl

pub add_operands-loop-operand-preserved : goal.add_operands-loop-operand-preserved
add_operands-loop-operand-preserved t c =
    operands_next (numbering (map shown c.args.table.now.declared)) c.args.to.now c.loop-operand.to c.add_expr.new.to c.args.operands.now c.loop-operand.operand-index c.operand-item.result c.loop-operand-test.true
    c.operand-item.is c.loop-operand.invariant c.in_ok-add_expr.ensures
