use Rattle.std.proofs.Common.{◌∙◌}
use Rattle.cmm_parser.proofs.Steps.{handed, loosely, stops, fails}
use Rattle.cmm_parser.proofs.parser.Parser.count_in.Goals as goal

pub returns-in_err-whole : goal.returns-in_err-whole
returns-in_err-whole c =
    loosely (fails (c.is_symbol.ensures ∙ c.if-is_symbol.false) (stops _ c.in_err-whole.ensures (handed c.from_residual.ensures.1)))
