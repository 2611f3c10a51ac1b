use Rattle.cmm_lexer.specs.declared.symbol.Symbol.TheVariants.{Open, Close}
use Rattle.cmm_parser.proofs.Steps.{handed, outer, brackets, stopped, stops_inside, stops_closing}
use Rattle.cmm_parser.proofs.parser.Parser.arguments.Goals as goal

pub returns-in_err-actuals : goal.returns-in_err-actuals
returns-in_err-actuals c =
    stopped (outer c.begin_outermost.ensures (stops_inside Open Close c.in_ok-outside.ensures c.in_err-actuals.ensures)) (handed c.from_residual-in_err-actuals.ensures.1)

pub returns-in_err-leave : goal.returns-in_err-leave
returns-in_err-leave c =
    stopped
    (outer c.begin_outermost.ensures
    (stops_closing Open Close c.in_ok-outside.ensures c.in_ok-actuals.ensures c.in_err-leave.ensures))
    (handed c.from_residual-in_err-leave.ensures.1)

pub returns : goal.returns
returns c =
    outer c.begin_outermost.ensures
    (brackets Open Close c.in_ok-outside.ensures c.in_ok-actuals.ensures c.in_ok-leave.ensures)
