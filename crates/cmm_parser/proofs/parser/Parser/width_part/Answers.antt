use Rattle.std.proofs.Common.{◌∙◌}
use Rattle.cmm_parser.proofs.Steps.{handed, steps, stops, gives, holds, fails}
use Rattle.cmm_parser.proofs.parser.Parser.width_part.Goals as goal

pub returns-in_err-form : goal.returns-in_err-form
returns-in_err-form c = holds (c.is_symbol.ensures ∙ c.if-is_symbol.true) (stops _ c.in_err-form.ensures (handed c.from_residual.ensures.1))

pub returns-in_ok-form : goal.returns-in_ok-form
returns-in_ok-form c = holds (c.is_symbol.ensures ∙ c.if-is_symbol.true) (steps _ c.in_ok-form.ensures (gives))

pub returns-else-is_symbol : goal.returns-else-is_symbol
returns-else-is_symbol c = fails (c.is_symbol.ensures ∙ c.if-is_symbol.false) (c.variables_part.ensures)
