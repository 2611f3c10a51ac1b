use Rattle.std.proofs.Common.{◌∙◌}
use Rattle.cmm_parser.proofs.Steps.{handed, loosely, steps, stops, gives, holds}
use Rattle.cmm_parser.proofs.parser.Parser.optional_exit.Goals as goal

pub returns-in_err-exit : goal.returns-in_err-exit
returns-in_err-exit c =
    loosely (holds (c.is_symbol.ensures ∙ c.if-is_symbol.true) (stops _ c.in_err-exit.ensures (handed c.from_residual.ensures.1)))

pub returns-in_ok-exit : goal.returns-in_ok-exit
returns-in_ok-exit c =
    loosely (holds (c.is_symbol.ensures ∙ c.if-is_symbol.true) (steps _ c.in_ok-exit.ensures (gives)))
