use Rattle.std.proofs.Common.{◌∙◌}
use Rattle.cmm_parser.proofs.Steps.{handed, steps, stops, gives, holds, fails, takes, leaves}
use Rattle.cmm_parser.proofs.parser.Parser.other_part.Goals as goal

pub returns-in_err-modifiers : goal.returns-in_err-modifiers
returns-in_err-modifiers c = holds (c.is_word.ensures ∙ c.if-is_word.true) (stops _ c.in_err-modifiers.ensures (handed c.from_residual.ensures.1))

pub returns-in_err-width : goal.returns-in_err-width
returns-in_err-width c = holds (c.is_word.ensures ∙ c.if-is_word.true) (steps _ c.in_ok-modifiers.ensures (stops _ c.in_err-width.ensures (handed c.from_residual-in_err-width.ensures.1)))

pub returns-in_ok-width : goal.returns-in_ok-width
returns-in_ok-width c = holds (c.is_word.ensures ∙ c.if-is_word.true) (steps _ c.in_ok-modifiers.ensures (steps _ c.in_ok-width.ensures (c.variables_part.ensures)))

pub returns-in_err-form : goal.returns-in_err-form
returns-in_err-form c = fails (c.is_word.ensures ∙ c.if-is_word.false) (takes (c.accept_word.ensures.taken c.if-accept_word.true) (stops _ c.in_err-form.ensures (handed c.from_residual-in_err-form.ensures.1)))

pub returns-in_ok-form : goal.returns-in_ok-form
returns-in_ok-form c = fails (c.is_word.ensures ∙ c.if-is_word.false) (takes (c.accept_word.ensures.taken c.if-accept_word.true) (steps _ c.in_ok-form.ensures (gives)))

pub returns-in_err-form-2 : goal.returns-in_err-form-2
returns-in_err-form-2 c = fails (c.is_word.ensures ∙ c.if-is_word.false) (leaves (c.accept_word.ensures.kept c.if-accept_word.false) (stops _ c.in_err-form-2.ensures (handed c.from_residual-in_err-form-2.ensures.1)))

pub returns-in_ok-form-2 : goal.returns-in_ok-form-2
returns-in_ok-form-2 c = fails (c.is_word.ensures ∙ c.if-is_word.false) (leaves (c.accept_word.ensures.kept c.if-accept_word.false) (steps _ c.in_ok-form-2.ensures (gives)))
