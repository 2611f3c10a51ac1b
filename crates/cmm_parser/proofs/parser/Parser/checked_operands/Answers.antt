use Rattle.cmm_parser.proofs.Steps.{handed, stopped, stops_inside, stops_closing}
use Rattle.cmm_lexer.specs.declared.symbol.Symbol.TheVariants.{Open, Close}
use Rattle.cmm_parser.proofs.parser.Parser.checked_operands.Goals as goal

pub returns-in_err-values : goal.returns-in_err-values
returns-in_err-values c = stopped (stops_inside Open Close c.in_ok-outside.ensures c.in_err-values.ensures) (handed c.from_residual-in_err-values.ensures.1)

pub returns-in_err-leave : goal.returns-in_err-leave
returns-in_err-leave c = stopped (stops_closing Open Close c.in_ok-outside.ensures c.in_ok-values.ensures c.in_err-leave.ensures) (handed c.from_residual-in_err-leave.ensures.1)
