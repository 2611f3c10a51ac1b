use Rattle.std.proofs.Common.{◌∙◌}
use Rattle.cmm_parser.proofs.Steps.{handed, loosely, holds, steps, stops, gives}
use Rattle.cmm_parser.proofs.parser.Parser.optional_span.Goals as goal

pub returns-in_err-switch_span : goal.returns-in_err-switch_span
returns-in_err-switch_span c =
    loosely (holds (c.is_symbol.ensures ∙ c.if-is_symbol.true) (stops _ c.in_err-switch_span.ensures (handed c.from_residual.ensures.1)))

pub returns-in_ok-switch_span : goal.returns-in_ok-switch_span
returns-in_ok-switch_span c =
    loosely (holds (c.is_symbol.ensures ∙ c.if-is_symbol.true) (steps _ c.in_ok-switch_span.ensures gives))
