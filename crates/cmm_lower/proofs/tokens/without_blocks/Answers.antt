use Rattle.std.proofs.Common.{◌-◌, ap, ◌∙◌}
use Rattle.cmm_lower.specs.inside.Lengths.{arms_length, parts_length}
use Rattle.cmm_lower.proofs.Lengths.{if_left, span_left, switch_left}
use Rattle.cmm_lower.proofs.tokens.without_blocks.Goals as goal

pub returns-in-If : goal.returns-in-If
returns-in-If c = if_left c.args.tokens c.without_parts.result c.without_otherwise.result c.args.form.now c.in-If.condition c.in-If.then c.in-If.otherwise c.in-If.is
    (c.without_parts.ensures ∙ ap (λ ps. c.args.tokens - parts_length ps) c.as_slice.ensures) c.without_otherwise.ensures

pub returns-in-Switch : goal.returns-in-Switch
returns-in-Switch c = switch_left c.args.tokens c.without_arms.result c.args.form.now c.in-Switch.range c.in-Switch.value c.in-Switch.arms c.in-Switch.is
    (c.without_arms.ensures ∙ ap (λ as_. c.args.tokens - arms_length as_) c.as_slice-in-Switch.ensures)

pub returns-in-Span : goal.returns-in-Span
returns-in-Span c = span_left c.args.tokens c.without_parts-in-Span.result c.args.form.now c.in-Span.key c.in-Span.value c.in-Span.body c.in-Span.is
    (c.without_parts-in-Span.ensures ∙ ap (λ ps. c.args.tokens - parts_length ps) c.as_slice-in-Span.ensures)
