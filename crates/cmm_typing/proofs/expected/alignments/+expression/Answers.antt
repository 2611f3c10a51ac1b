use Rattle.std.proofs.Common.{refl}
use Rattle.cmm_ast.specs.declared.expression.Expr.{Expr}
use Rattle.cmm_ast.specs.declared.expression.Memory.{out-Memory}
use Rattle.cmm_static_semantics.specs.Expressions.{alignment_spots}
use Rattle.cmm_static_semantics.specs.Mentions.{form_alignments, listed}
use Rattle.cmm_typing.proofs.FirstFaults.{noted_append, noted_turn}
use Rattle.cmm_typing.proofs.Aligned.{infix_aligned, prefix_aligned, named_aligned, bracketed_aligned, memory_aligned}
use Rattle.cmm_typing.proofs.expected.alignments.+expression.Goals as goal

pub note_expr-returns-in-Infix : goal.note_expr-returns-in-Infix
note_expr-returns-in-Infix t c =
    rw (
      infix_aligned c.args.e.now.form c.in-Infix.left c.in-Infix.operator c.in-Infix.right c.in-Infix.is,
      noted_append alignment_spots c.args.best.now (form_alignments c.in-Infix.left.form) (form_alignments c.in-Infix.right.form),
      c.note_expr-in-Infix.ensures,
      c.note_expr.ensures,
      c.get.ensures,
      c.get-in-Infix.ensures,
    ) refl

pub note_expr-returns-in-Prefix : goal.note_expr-returns-in-Prefix
note_expr-returns-in-Prefix t c =
    rw (prefix_aligned c.args.e.now.form c.in-Prefix.operator c.in-Prefix.operand c.in-Prefix.is, c.note_expr-in-Prefix.ensures, c.get-in-Prefix.ensures) refl

pub note_expr-returns-in-Named : goal.note_expr-returns-in-Named
note_expr-returns-in-Named t c =
    rw (named_aligned c.args.e.now.form c.in-Named.operator c.in-Named.operands c.in-Named.is, c.note_operands.ensures, c.as_slice.ensures) refl

pub note_memory-returns : goal.note_memory-returns
note_memory-returns t c =
    rw (
      memory_aligned c.args.memory.now,
      noted_append alignment_spots c.args.best.now (form_alignments (out-Memory c.args.memory.now).address.form) (listed (out-Memory c.args.memory.now).aligned),
      c.note_some.ensures,
      c.note_expr.ensures,
      c.get.ensures,
    ) refl

pub note_prim-returns-in-Bracketed : goal.note_prim-returns-in-Bracketed
note_prim-returns-in-Bracketed t c =
    rw (bracketed_aligned c.args.prim.now c.in-Bracketed.inner c.in-Bracketed.is, c.note_expr.ensures, c.get.ensures) refl

pub note_operands-loop-operand-preserved : goal.note_operands-loop-operand-preserved
note_operands-loop-operand-preserved t c = rw (c.note_expr.ensures, c.loop-operand.invariant)
    (noted_turn (λ (e : Expr). form_alignments e.form) alignment_spots c.args.best.now c.args.operands.now c.loop-operand.operand-index c.operand-item.result
    c.loop-operand-test.true c.operand-item.is)
