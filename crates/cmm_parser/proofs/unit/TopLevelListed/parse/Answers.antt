use Rattle.std.proofs.Common.{◌∙◌}
use Rattle.cmm_parser.proofs.Steps.{handed, steps, stops, holds, fails, gives}
use Rattle.cmm_parser.proofs.unit.TopLevelListed.parse.Goals as goal

pub returns-in_err-section : goal.returns-in_err-section
returns-in_err-section c = holds (c.is_word.ensures ∙ c.if-is_word.true) (stops _ c.in_err-section.ensures (handed c.from_residual.ensures.1))

pub returns-in_err-proc : goal.returns-in_err-proc
returns-in_err-proc c =
    fails (c.is_word.ensures ∙ c.if-is_word.false)
    (holds (c.is_name.ensures ∙ c.if-is_name.true) (stops _ c.in_err-proc.ensures (handed c.from_residual-in_err-proc.ensures.1)))

pub returns-then-is_name : goal.returns-then-is_name
returns-then-is_name c =
    fails (c.is_word.ensures ∙ c.if-is_word.false) (holds (c.is_name.ensures ∙ c.if-is_name.true) (steps _ c.in_ok-proc.ensures gives))

pub returns-in_err-decl : goal.returns-in_err-decl
returns-in_err-decl c =
    fails (c.is_word.ensures ∙ c.if-is_word.false)
    (fails (c.is_name.ensures ∙ c.if-is_name.false) (stops _ c.in_err-decl.ensures (handed c.from_residual-in_err-decl.ensures.1)))

pub returns : goal.returns
returns c =
    fails (c.is_word.ensures ∙ c.if-is_word.false) (fails (c.is_name.ensures ∙ c.if-is_name.false) (steps _ c.in_ok-decl.ensures gives))
