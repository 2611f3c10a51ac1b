use Rattle.std.proofs.Common.{◌==◌, ◌++◌, ◌∷◌, sym, ap, ◌∙◌, subst}
use Rattle.std.specs.List.{list_any}
use Rattle.cmm_ast.specs.declared.statement.Part.{Part}
use Rattle.cmm_ast.specs.declared.statement.Part.TheVariants as parts
use Rattle.cmm_static_semantics.specs.Items.{part_within, parts_in, parts_otherwise}
use Rattle.cmm_static_semantics.specs.Limits.{site_tokens, tokens_of}
use Rattle.cmm_static_semantics.specs.Scopes.{senses}
use Rattle.cmm_proc_scope.specs.Bodies.{scope_of_body}
use Rattle.cmm_limits.specs.Capped.{capped}
use Rattle.cmm_limits.specs.inside.InForce.{AreInForce, one_more, parts_of_arms}
use Rattle.cmm_limits.proofs.Spans.{both, else_if_law, else_law, from_ok, if_law, span_entered, span_law, switch_law, tokens_next}
use Rattle.cmm_limits.proofs.span_tokens.+spans.Goals as goal

pub in_block-loop-part-preserved : goal.in_block-loop-part-preserved
in_block-loop-part-preserved g t c = let s = scope_of_body g.N.Names.senses c.args.names.now in (
  c.in_ok-more.ensures.tokens ∙ c.loop-part.invariant.0,
  λ spans around force. c.saturating_add-sum.ensures
      ∙ tokens_next s around (part_within spans) c.as_slice-part-items.result.now c.loop-part.part-index c.part-item.result c.loop-part.sum c.in_ok-more.more
      c.loop-part-test.true c.part-item.is (c.loop-part.invariant.1 spans around force)
      (c.in_ok-more.ensures.sum spans around
      (subst (λ ts. AreInForce (senses s) ts c.args.different spans around) (sym c.loop-part.invariant.0) force)),
)

pub in_arms-loop-arm-preserved : goal.in_arms-loop-arm-preserved
in_arms-loop-arm-preserved g t c = let s = scope_of_body g.N.Names.senses c.args.names.now in (
  c.in_ok-more.ensures.tokens ∙ c.loop-arm.invariant.0,
  λ spans around force. c.saturating_add-sum.ensures
      ∙ tokens_next s around (λ a. parts_in spans a.body) c.args.arms.now c.loop-arm.arm-index c.arm-item.result c.loop-arm.sum c.in_ok-more.more
      c.loop-arm-test.true c.arm-item.is (c.loop-arm.invariant.1 spans around force)
      (c.in_ok-more.ensures.sum spans around
      (subst (λ ts. AreInForce (senses s) ts c.args.different spans around) (sym c.loop-arm.invariant.0) force)),
)

pub in_form-returns-in_ok-second-in-If-clause-sum : goal.in_form-returns-in_ok-second-in-If-clause-sum
in_form-returns-in_ok-second-in-If-clause-sum g t c spans around force = let s = scope_of_body g.N.Names.senses c.args.names.now in
    c.saturating_add.ensures
    ∙ both s around (parts_in spans c.in-If.then) (parts_otherwise spans c.in-If.otherwise) _ c.in_ok-first-in-If.first c.in_ok-second-in-If.second
    (if_law spans c.args.form.now c.in-If.condition c.in-If.then c.in-If.otherwise c.in-If.is)
    (c.in_ok-first-in-If.ensures.sum spans around force)
    (c.in_ok-second-in-If.ensures.sum spans around
    (subst (λ ts. AreInForce (senses s) ts c.args.different spans around) (sym c.in_ok-first-in-If.ensures.tokens) force))

pub in_form-returns-in-Switch-clause-sum : goal.in_form-returns-in-Switch-clause-sum
in_form-returns-in-Switch-clause-sum g t c = let s = scope_of_body g.N.Names.senses c.args.names.now in
    from_ok c.in_arms.result (λ sum p. λ spans around force. p spans around force
    ∙ ap (λ ps. capped (site_tokens s around ps)) (ap (parts_of_arms spans) c.as_slice.ensures
    ∙ sym (switch_law spans c.args.form.now c.in-Switch.range c.in-Switch.value c.in-Switch.arms c.in-Switch.is))) c.in_arms.ensures.sum

pub in_form-returns-in_ok-sum-in-Span-clause-sum : goal.in_form-returns-in_ok-sum-in-Span-clause-sum
in_form-returns-in_ok-sum-in-Span-clause-sum g t c spans around force = let s = scope_of_body g.N.Names.senses c.args.names.now in
    let token = c.number_or_zero-token.result in
    let more = subst (λ ts. AreInForce (senses s) ts c.with_one_more-inside.result (record { key = c.in-Span.key; value = c.in-Span.value } ∷ spans) around) (sym c.in_ok-push-in-Span.ensures.ok)
    (span_entered (senses s) c.args.tokens.now c.args.different token c.with_one_more-inside.result (tokens_of (senses s) spans ++ around) c.in-Span.key
    c.number_or_zero-token.ensures (c.with_one_more-inside.ensures ∙ ap (λ ts. one_more (list_any (λ t. t == token) ts) c.args.different) c.as_slice-in-Span.ensures) force) in
    c.in_ok-sum-in-Span.ensures.sum (record { key = c.in-Span.key; value = c.in-Span.value } ∷ spans) around more
    ∙ ap (λ ps. capped (site_tokens s around ps)) (sym (span_law spans c.args.form.now c.in-Span.key c.in-Span.value c.in-Span.body c.in-Span.is))

pub in_otherwise-returns-in-Else-clause-sum : goal.in_otherwise-returns-in-Else-clause-sum
in_otherwise-returns-in-Else-clause-sum g t c = let s = scope_of_body g.N.Names.senses c.args.names.now in
    from_ok c.in_block.result (λ sum p. λ spans around force. p spans around force
    ∙ ap (λ ps. capped (site_tokens s around ps)) (sym (else_law spans c.args.otherwise.now c.in-Else.block c.in-Else.is))) c.in_block.ensures.sum

pub in_otherwise-returns-in-ElseIf-clause-sum : goal.in_otherwise-returns-in-ElseIf-clause-sum
in_otherwise-returns-in-ElseIf-clause-sum g t c = let s = scope_of_body g.N.Names.senses c.args.names.now in
    from_ok c.in_stmt.result (λ sum p. λ spans around force. p spans around force
    ∙ ap (λ ps. capped (site_tokens s around ps)) (ap (λ q. part_within spans (parts.Stmt q)) c.get.ensures
    ∙ sym (else_if_law spans c.args.otherwise.now c.in-ElseIf.stmt c.in-ElseIf.is))) c.in_stmt.ensures.sum

pub in_part-returns-in-Stmt-clause-sum : goal.in_part-returns-in-Stmt-clause-sum
in_part-returns-in-Stmt-clause-sum g t c = let s = scope_of_body g.N.Names.senses c.args.names.now in
    from_ok c.in_stmt.result (λ sum p. λ spans around force. p spans around force
    ∙ ap (λ (q : Part). capped (site_tokens s around (part_within spans q))) (sym c.in-Stmt.is)) c.in_stmt.ensures.sum
