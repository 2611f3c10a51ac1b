use Rattle.std.proofs.Common.{refl}
use Rattle.cmm_ast.specs.declared.expression.Memory.{out-Memory}
use Rattle.cmm_static_semantics.specs.Mentions.{type_names, all_names}
use Rattle.cmm_static_semantics.specs.LongNames.{of_expr}
use Rattle.cmm_symbols.proofs.Lengths.{long_append, long_next}
use Rattle.cmm_static_semantics.proofs.Shared.{infix_law, prefix_law, named_law, bracketed_law, memory_law}
use Rattle.cmm_symbols.proofs.long_expression.+expression.Goals as goal

pub note_expr-returns-in-Infix : goal.note_expr-returns-in-Infix
note_expr-returns-in-Infix t c =
    rw (
      infix_law all_names c.args.e.now c.in-Infix.left c.in-Infix.operator c.in-Infix.right c.in-Infix.is,
      long_append c.args.best.now (of_expr c.in-Infix.left) (of_expr c.in-Infix.right),
      c.note_expr-in-Infix.ensures,
      c.note_expr.ensures,
      c.get.ensures,
      c.get-in-Infix.ensures,
    ) refl

pub note_expr-returns-in-Prefix : goal.note_expr-returns-in-Prefix
note_expr-returns-in-Prefix t c =
    rw (prefix_law all_names c.args.e.now c.in-Prefix.operator c.in-Prefix.operand c.in-Prefix.is, c.note_expr-in-Prefix.ensures, c.get-in-Prefix.ensures) refl

pub note_expr-returns-in-Named : goal.note_expr-returns-in-Named
note_expr-returns-in-Named t c = rw (named_law all_names c.args.e.now c.in-Named.operator c.in-Named.operands c.in-Named.is, c.note_operands.ensures, c.as_slice.ensures) refl

pub note_memory-returns : goal.note_memory-returns
note_memory-returns t c =
    rw (
      memory_law all_names c.args.memory.now,
      long_append c.args.best.now (type_names (out-Memory c.args.memory.now).width) (of_expr (out-Memory c.args.memory.now).address),
      c.note_expr.ensures,
      c.note_long.ensures,
      c.get.ensures,
    ) refl

pub note_prim-returns-in-Bracketed : goal.note_prim-returns-in-Bracketed
note_prim-returns-in-Bracketed t c = rw (bracketed_law all_names c.args.token c.args.prim.now c.in-Bracketed.inner c.in-Bracketed.is, c.note_expr.ensures, c.get.ensures) refl

pub note_operands-loop-operand-preserved : goal.note_operands-loop-operand-preserved
note_operands-loop-operand-preserved t c = rw (c.note_expr.ensures, c.loop-operand.invariant)
    (long_next of_expr c.args.best.now c.args.operands.now c.loop-operand.operand-index c.operand-item.result c.loop-operand-test.true c.operand-item.is)
