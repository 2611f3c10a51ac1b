use Rattle.std.proofs.Common.{◌++◌, [], ◌∷◌, sym, ap, ◌∙◌, subst}
use Rattle.cmm_static_semantics.specs.Items.{part_within}
use Rattle.cmm_elaboration.specs.Bodies.{part_of}
use Rattle.cmm_elaboration.proofs.Shared.{alike_part, whats_alike}
use Rattle.cmm_proc_scope.specs.Bodies.{scope_of_body}
use Rattle.cmm_lower.specs.inside.Making.{ArmsMade, OtherwiseMade, PartsMade, arm_inside, arm_of}
use Rattle.cmm_lower.proofs.Making.{made_next}
use Rattle.cmm_lower.proofs.Statements.{arm_made, assign_made, checked_made, else_if_is_made, else_ok, if_made, span_made, statement_made, stmt_made, switch_made}
use Rattle.cmm_lower.proofs.bodies.+bodies.Goals as goal

pub statements_of-loop-part-preserved : goal.statements_of-loop-part-preserved
statements_of-loop-part-preserved g t c = let s = scope_of_body g.N.Names.senses c.args.names.now in
    made_next part_within (part_of s) alike_part s c.args.spans.now c.args.sites.now c.loop-part.sites c.add_part.new.sites c.args.parts.now c.loop-part.part-index c.part-item.result
    c.loop-part.made c.add_part.new.to c.loop-part-test.true c.part-item.is c.loop-part.invariant c.in_ok-add_part.ensures

pub arms_of-loop-arm-preserved : goal.arms_of-loop-arm-preserved
arms_of-loop-arm-preserved g t c = let s = scope_of_body g.N.Names.senses c.args.names.now in
    made_next arm_inside (arm_of s c.args.width) (λ a b x. whats_alike a b x.body.parts) s c.args.spans.now c.args.sites.now c.loop-arm.sites c.statements_of.new.sites c.args.arms.now
    c.loop-arm.arm-index c.arm-item.result c.loop-arm.made c.push.new.self c.loop-arm-test.true c.arm-item.is c.loop-arm.invariant
    (arm_made s c.args.spans.now c.loop-arm.sites c.statements_of.new.sites c.args.width c.arm-item.result c.in_ok-case.case c.in_ok-body.body c.loop-arm.made c.push.new.self
    c.in_ok-case.ensures (subst (λ ps. PartsMade s c.args.spans.now c.loop-arm.sites c.statements_of.new.sites ps c.in_ok-body.body) c.as_slice.ensures c.in_ok-body.ensures) c.in_ok-push.ensures.ok)

pub add_part-returns-in_ok-push-in-Stmt : goal.add_part-returns-in_ok-push-in-Stmt
add_part-returns-in_ok-push-in-Stmt g t c = stmt_made (scope_of_body g.N.Names.senses c.args.names.now) c.args.spans.now c.args.sites.now c.statement_of.new.sites c.args.part.now c.in-Stmt.stmt
    c.in_ok-made-in-Stmt.made c.args.to.now c.push.new.self c.in-Stmt.is c.in_ok-push-in-Stmt.ensures.ok c.in_ok-made-in-Stmt.ensures

pub form_of-returns-in_ok-otherwise-in-If : goal.form_of-returns-in_ok-otherwise-in-If
form_of-returns-in_ok-otherwise-in-If g t c = let s = scope_of_body g.N.Names.senses c.args.names.now in
    if_made s c.args.spans.now c.args.sites.now c.statements_of.new.sites c.otherwise_of.new.sites c.args.site c.args.form.now c.in-If.condition c.in-If.then c.in-If.otherwise
    c.in_ok-condition-in-If.condition c.in_ok-then-in-If.then c.in_ok-otherwise-in-If.otherwise c.in-If.is c.in_ok-condition-in-If.ensures
    (subst (λ ps. PartsMade s c.args.spans.now c.args.sites.now c.statements_of.new.sites ps c.in_ok-then-in-If.then) c.as_slice.ensures c.in_ok-then-in-If.ensures) c.in_ok-otherwise-in-If.ensures

pub form_of-returns-in_ok-arms-in-Switch : goal.form_of-returns-in_ok-arms-in-Switch
form_of-returns-in_ok-arms-in-Switch g t c = let s = scope_of_body g.N.Names.senses c.args.names.now in
    switch_made s c.args.spans.now c.args.sites.now c.arms_of.new.sites c.args.site c.args.form.now c.in-Switch.range c.in-Switch.value c.in-Switch.arms c.value_width-width.result
    c.in_ok-value-in-Switch.value c.in_ok-arms-in-Switch.arms c.in-Switch.is c.value_width-width.ensures c.in_ok-value-in-Switch.ensures
    (subst (λ as_. ArmsMade s c.args.spans.now c.args.sites.now c.arms_of.new.sites c.value_width-width.result as_ c.in_ok-arms-in-Switch.arms) c.as_slice-in-Switch.ensures
    c.in_ok-arms-in-Switch.ensures)

pub form_of-returns-in_ok-body-in-Span : goal.form_of-returns-in_ok-body-in-Span
form_of-returns-in_ok-body-in-Span g t c = let s = scope_of_body g.N.Names.senses c.args.names.now in
    span_made s c.args.spans.now c.args.sites.now c.statements_of-in-Span.new.sites c.args.site c.args.form.now c.in-Span.key c.in-Span.value c.in-Span.body c.span_value.result
    c.in_ok-inside-in-Span.inside c.in_ok-body-in-Span.body c.in-Span.is c.span_value.ensures c.in_ok-inside-in-Span.ensures
    (subst (λ f. PartsMade s f c.args.sites.now c.statements_of-in-Span.new.sites c.in-Span.body.parts c.in_ok-body-in-Span.body) c.as_slice-in-Span-2.ensures
    (subst (λ ps. PartsMade s c.as_slice-in-Span-2.result.now c.args.sites.now c.statements_of-in-Span.new.sites ps c.in_ok-body-in-Span.body) c.as_slice-in-Span.ensures
    c.in_ok-body-in-Span.ensures))

pub form_of-returns-in-Assign : goal.form_of-returns-in-Assign
form_of-returns-in-Assign g t c = assign_made (scope_of_body g.N.Names.senses c.args.names.now) c.args.spans.now c.args.sites.now c.args.site c.args.form.now c.in-Assign.to
    c.as_slice-in-Assign.result.now c.in-Assign.values c.as_slice-in-Assign-2.result.now c.assign_form.result c.in-Assign.is c.as_slice-in-Assign.ensures c.as_slice-in-Assign-2.ensures
    c.assign_form.ensures

pub form_of-returns-in-Checked : goal.form_of-returns-in-Checked
form_of-returns-in-Checked g t c = checked_made (scope_of_body g.N.Names.senses c.args.names.now) c.args.spans.now c.args.sites.now c.args.site c.args.form.now c.in-Checked.result
    c.in-Checked.operator c.in-Checked.left c.in-Checked.right c.in-Checked.flows c.checked_form.result c.in-Checked.is c.checked_form.ensures

pub otherwise_of-returns-in-Else : goal.otherwise_of-returns-in-Else
otherwise_of-returns-in-Else g t c = else_ok (scope_of_body g.N.Names.senses c.args.names.now) c.args.spans.now c.args.sites.now c.statements_of.new.sites c.args.otherwise.now c.in-Else.block
    c.as_slice.result.now c.statements_of.result c.in-Else.is c.as_slice.ensures c.statements_of.ensures

pub otherwise_of-returns-in_ok-push-in-ElseIf : goal.otherwise_of-returns-in_ok-push-in-ElseIf
otherwise_of-returns-in_ok-push-in-ElseIf g t c = let s = scope_of_body g.N.Names.senses c.args.names.now in
    subst (OtherwiseMade s c.args.spans.now c.args.sites.now c.statement_of.new.sites c.args.otherwise.now)
    (sym (c.in_ok-push-in-ElseIf.ensures.ok ∙ ap (λ xs. xs ++ c.in_ok-inner-in-ElseIf.inner ∷ []) c.new-made.ensures))
    (else_if_is_made s c.args.spans.now c.args.sites.now c.statement_of.new.sites c.args.otherwise.now c.in-ElseIf.stmt c.get.result.now c.in_ok-inner-in-ElseIf.inner c.in-ElseIf.is
    c.get.ensures c.in_ok-inner-in-ElseIf.ensures)

pub statement_of-returns : goal.statement_of-returns
statement_of-returns g t c = statement_made (scope_of_body g.N.Names.senses c.args.names.now) c.args.spans.now c.args.sites.now c.add_site.new.to c.form_of.new.sites c.args.stmt.now
    c.own_tokens-tokens.result c.next_site-site.result c.in_ok-form.form c.own_tokens-tokens.ensures c.next_site-site.ensures c.in_ok-add_site.ensures c.in_ok-form.ensures
