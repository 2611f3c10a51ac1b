use Rattle.cmm_parser.proofs.Steps.{handed, stopped, stops_inside, stops_closing}
use Rattle.cmm_lexer.specs.declared.symbol.Symbol.TheVariants.{Open, Close}
use Rattle.cmm_parser.proofs.parser.Parser.whole_in_brackets.Goals as goal

pub returns-in_err-inner : goal.returns-in_err-inner
returns-in_err-inner c = stopped (stops_inside Open Close c.in_ok-outside.ensures c.in_err-inner.ensures) (handed c.from_residual-in_err-inner.ensures.1)

pub returns-in_err-leave : goal.returns-in_err-leave
returns-in_err-leave c = stopped (stops_closing Open Close c.in_ok-outside.ensures c.in_ok-inner.ensures c.in_err-leave.ensures) (handed c.from_residual-in_err-leave.ensures.1)
