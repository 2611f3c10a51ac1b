use Rattle.std.proofs.Common.{◌-◌, ap, ◌∙◌}
use Rattle.cmm_lower.specs.inside.Lengths.{parts_length}
use Rattle.cmm_lower.proofs.Lengths.{else_if_left, else_left}
use Rattle.cmm_lower.proofs.tokens.without_otherwise.Goals as goal

pub returns-in-Else : goal.returns-in-Else
returns-in-Else c = else_left c.args.tokens c.without_parts.result c.args.otherwise.now c.in-Else.block c.in-Else.is
    (c.without_parts.ensures ∙ ap (λ ps. c.args.tokens - parts_length ps) c.as_slice.ensures)

pub returns-in-ElseIf : goal.returns-in-ElseIf
returns-in-ElseIf c = else_if_left c.args.tokens c.saturating_sub-in-ElseIf.result c.args.otherwise.now c.in-ElseIf.stmt c.get-inner.result.now c.in-ElseIf.is c.get-inner.ensures
    (c.saturating_sub-in-ElseIf.ensures ∙ ap (λ n. c.args.tokens - n) c.saturating_sub.ensures)
