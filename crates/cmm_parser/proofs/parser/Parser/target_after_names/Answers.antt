use Rattle.std.proofs.Common.{◌∙◌}
use Rattle.cmm_parser.proofs.Steps.{handed, stops, fails}
use Rattle.cmm_parser.proofs.parser.Parser.target_after_names.Goals as goal

pub returns-in_err-lvalue : goal.returns-in_err-lvalue
returns-in_err-lvalue c = fails (c.is_text.ensures ∙ c.if-is_text.false) (stops _ c.in_err-lvalue.ensures (handed c.from_residual-in_err-lvalue.ensures.1))
