use Rattle.std.proofs.Common.{refl}
use Rattle.cmm_static_semantics.specs.Expressions.{host_spots}
use Rattle.cmm_static_semantics.specs.Mentions.{expr_names, values_alone}
use Rattle.cmm_static_semantics.proofs.Shared.{infix_law, prefix_law, named_law, bracketed_law, memory_law}
use Rattle.cmm_typing.proofs.FirstFaults.{noted_none, noted_append, noted_turn}
use Rattle.cmm_typing.proofs.Named.{no_values}
use Rattle.cmm_typing.proofs.expected.hosts.+expression.Goals as goal

pub note_expr-returns-in-Infix : goal.note_expr-returns-in-Infix
note_expr-returns-in-Infix g t c =
    rw (
      infix_law values_alone c.args.e.now c.in-Infix.left c.in-Infix.operator c.in-Infix.right c.in-Infix.is,
      noted_append (host_spots (g.N.Names.senses c.args.names.now)) c.args.best.now (expr_names values_alone c.in-Infix.left) (expr_names values_alone c.in-Infix.right),
      c.note_expr-in-Infix.ensures,
      c.note_expr.ensures,
      c.get.ensures,
      c.get-in-Infix.ensures,
    ) refl

pub note_expr-returns-in-Prefix : goal.note_expr-returns-in-Prefix
note_expr-returns-in-Prefix g t c =
    rw (prefix_law values_alone c.args.e.now c.in-Prefix.operator c.in-Prefix.operand c.in-Prefix.is, c.note_expr-in-Prefix.ensures, c.get-in-Prefix.ensures) refl

pub note_expr-returns-in-Named : goal.note_expr-returns-in-Named
note_expr-returns-in-Named g t c =
    rw (named_law values_alone c.args.e.now c.in-Named.operator c.in-Named.operands c.in-Named.is, c.note_operands.ensures, c.as_slice.ensures) refl

pub note_memory-returns : goal.note_memory-returns
note_memory-returns g t c = rw (memory_law values_alone c.args.memory.now, c.note_expr.ensures, c.get.ensures) refl

pub note_prim-returns-in-Literal : goal.note_prim-returns-in-Literal
note_prim-returns-in-Literal g t c =
    rw (c.in-Literal.is, no_values c.in-Literal.width, noted_none (host_spots (g.N.Names.senses c.args.names.now)) c.args.best.now) refl

pub note_prim-returns-in-Bracketed : goal.note_prim-returns-in-Bracketed
note_prim-returns-in-Bracketed g t c =
    rw (bracketed_law values_alone c.args.token c.args.prim.now c.in-Bracketed.inner c.in-Bracketed.is, c.note_expr.ensures, c.get.ensures) refl

pub note_operands-loop-operand-preserved : goal.note_operands-loop-operand-preserved
note_operands-loop-operand-preserved g t c = rw (c.note_expr.ensures, c.loop-operand.invariant)
    (noted_turn (expr_names values_alone) (host_spots (g.N.Names.senses c.args.names.now)) c.args.best.now c.args.operands.now c.loop-operand.operand-index c.operand-item.result
    c.loop-operand-test.true c.operand-item.is)
