use Rattle.std.proofs.Common.{◌∙◌}
use Rattle.cmm_parser.proofs.Steps.{handed, steps, stops, holds, fails, gives, gives_same}
use Rattle.cmm_parser.proofs.parser.Parser.named_item.Goals as goal

pub returns-in_err-procedure : goal.returns-in_err-procedure
returns-in_err-procedure c = holds (c.is_symbol.ensures ∙ c.if-is_symbol.true) (stops _ c.in_err-procedure.ensures (handed c.from_residual.ensures.1))

pub returns-then-is_symbol : goal.returns-then-is_symbol
returns-then-is_symbol c = holds (c.is_symbol.ensures ∙ c.if-is_symbol.true) (steps _ c.in_ok-procedure.ensures gives)

pub returns-in_err-form : goal.returns-in_err-form
returns-in_err-form c = fails (c.is_symbol.ensures ∙ c.if-is_symbol.false) (stops _ c.in_err-form.ensures (handed c.from_residual-in_err-form.ensures.1))

pub returns : goal.returns
returns c = fails (c.is_symbol.ensures ∙ c.if-is_symbol.false) (steps _ c.in_ok-form.ensures (gives_same c.datum_at.ensures))
