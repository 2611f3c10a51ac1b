use Rattle.std.proofs.Common.{◌∙◌}
use Rattle.cmm_parser.proofs.Steps.{handed, loosely, steps, stops, gives, holds}
use Rattle.cmm_parser.proofs.parser.Parser.optional_arguments.Goals as goal

pub returns-in_err-arguments : goal.returns-in_err-arguments
returns-in_err-arguments c =
    loosely (holds (c.is_symbol.ensures ∙ c.if-is_symbol.true) (stops _ c.in_err-arguments.ensures (handed c.from_residual.ensures.1)))

pub returns-in_ok-arguments : goal.returns-in_ok-arguments
returns-in_ok-arguments c =
    loosely (holds (c.is_symbol.ensures ∙ c.if-is_symbol.true) (steps _ c.in_ok-arguments.ensures (gives)))
