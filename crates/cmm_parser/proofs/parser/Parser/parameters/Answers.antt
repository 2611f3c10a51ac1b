use Rattle.cmm_parser.proofs.Steps.{handed, stopped, brackets, stops_inside, stops_closing}
use Rattle.cmm_lexer.specs.declared.symbol.Symbol.TheVariants.{Open, Close}
use Rattle.cmm_parser.proofs.parser.Parser.parameters.Goals as goal

pub returns : goal.returns
returns c = brackets Open Close c.in_ok-outside.ensures c.in_ok-parameters.ensures c.in_ok-leave.ensures

pub returns-in_err-parameters : goal.returns-in_err-parameters
returns-in_err-parameters c = stopped (stops_inside Open Close c.in_ok-outside.ensures c.in_err-parameters.ensures) (handed c.from_residual-in_err-parameters.ensures.1)

pub returns-in_err-leave : goal.returns-in_err-leave
returns-in_err-leave c = stopped (stops_closing Open Close c.in_ok-outside.ensures c.in_ok-parameters.ensures c.in_err-leave.ensures) (handed c.from_residual-in_err-leave.ensures.1)
