use Rattle.std.proofs.Common.{◌∙◌, rules}
use Rattle.cmm_parser.proofs.Steps.{handed, steps, stops, gives_same, fails}
use Rattle.cmm_parser.proofs.parser.Parser.values_or_call.Goals as goal

pub returns-in_err-value : goal.returns-in_err-value
returns-in_err-value c = stops _ c.in_err-value.ensures (handed c.from_residual.ensures.1)

pub returns-in_err-values : goal.returns-in_err-values
returns-in_err-values c = steps _ c.in_ok-value.ensures (fails (c.is_symbol.ensures ∙ c.if-is_symbol.false) (stops _ c.in_err-values.ensures (handed c.from_residual-in_err-values.ensures.1)))

pub returns-in_ok-to : goal.returns-in_ok-to
returns-in_ok-to c = steps _ c.in_ok-value.ensures (fails (c.is_symbol.ensures ∙ c.if-is_symbol.false) (steps _ c.in_ok-values.ensures (steps _ c.in_ok-expect.ensures (gives_same (search rules)))))
