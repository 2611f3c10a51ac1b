use Rattle.std.proofs.Common.{refl}
use Rattle.cmm_typing.proofs.Forms.{infix_joined, prefix_joined, named_joined, bracketed_joined, memory_joined}
use Rattle.cmm_typing.proofs.engine.+expression.Goals as goal

pub judge_by-returns-in_ok-a-in-Infix-clause-value : goal.judge_by-returns-in_ok-a-in-Infix-clause-value
judge_by-returns-in_ok-a-in-Infix-clause-value g t c =
    infix_joined g.V.Values.algebra (g.N.Names.senses c.args.names.now) c.judge_right.result c.args.e.now c.in-Infix.left c.in-Infix.operator c.in-Infix.right c.in-Infix.is
    c.get.result.now c.get-in-Infix.result.now c.get-in-Infix-2.result.now c.get-in-Infix-2.result.now c.get.ensures c.get-in-Infix.ensures c.get-in-Infix-2.ensures c.get-in-Infix-2.ensures
    c.in_ok-a-in-Infix.a _ c.in_ok-a-in-Infix.ensures.value refl c.judge_right.ensures.value

pub judge_by-returns-in-Prefix-clause-value : goal.judge_by-returns-in-Prefix-clause-value
judge_by-returns-in-Prefix-clause-value g t c =
    prefix_joined g.V.Values.algebra (g.N.Names.senses c.args.names.now) c.judge_prefix.result c.args.e.now c.in-Prefix.operator c.in-Prefix.operand c.in-Prefix.is
    c.get-in-Prefix.result.now c.get-in-Prefix.result.now c.get-in-Prefix.ensures c.get-in-Prefix.ensures _ refl c.judge_prefix.ensures.value

pub judge_by-returns-in-Named-clause-value : goal.judge_by-returns-in-Named-clause-value
judge_by-returns-in-Named-clause-value g t c =
    named_joined g.V.Values.algebra (g.N.Names.senses c.args.names.now) c.judge_named.result c.args.e.now c.in-Named.operator c.in-Named.operands c.in-Named.is
    c.as_slice.result.now c.as_slice.ensures _ refl _ refl c.judge_named.ensures.value

pub judge_right-returns-clause-value : goal.judge_right-returns-clause-value
judge_right-returns-clause-value g t c = rw (← c.in_ok-b.ensures.value) c.infixed.ensures.value

pub judge_prefix-returns-clause-value : goal.judge_prefix-returns-clause-value
judge_prefix-returns-clause-value g t c = rw (← c.in_ok-a.ensures.value) c.prefixed.ensures.value

pub judge_named-returns-clause-value : goal.judge_named-returns-clause-value
judge_named-returns-clause-value g t c = rw (← c.in_ok-given.ensures.value, ← c.operator_named.ensures) c.applied.ensures.value

pub judge_memory-returns-clause-value : goal.judge_memory-returns-clause-value
judge_memory-returns-clause-value g t c =
    memory_joined g.V.Values.algebra (g.N.Names.senses c.args.names.now) c.loaded.result c.args.memory.now c.type_width-width.result c.type_width-width.ensures
    c.get.result.now c.get-2.result.now c.get.ensures c.get-2.ensures c.in_ok-address.address c.in_ok-address.ensures.value c.loaded.ensures.value

pub judge_primary-returns-in-Bracketed-clause-value : goal.judge_primary-returns-in-Bracketed-clause-value
judge_primary-returns-in-Bracketed-clause-value g t c =
    bracketed_joined g.V.Values.algebra (g.N.Names.senses c.args.names.now) c.judge_by.result c.args.token c.args.prim.now c.in-Bracketed.inner c.in-Bracketed.is
    c.get.result.now c.get.ensures c.judge_by.ensures.value
