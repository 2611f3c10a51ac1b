use Rattle.cmm_lexer.specs.declared.symbol.Symbol.TheVariants.{OpenBrace, CloseBrace}
use Rattle.cmm_parser.proofs.Steps.{handed, steps, stops, gives, brackets, stops_inside, stops_closing}
use Rattle.cmm_parser.proofs.parser.Parser.values.Goals as goal

pub returns-in_err-values : goal.returns-in_err-values
returns-in_err-values c =
    stops _ (stops_inside OpenBrace CloseBrace c.in_ok-outside.ensures c.in_err-values.ensures) (handed c.from_residual-in_err-values.ensures.1)

pub returns-in_err-leave : goal.returns-in_err-leave
returns-in_err-leave c =
    stops _
    (stops_closing OpenBrace CloseBrace c.in_ok-outside.ensures c.in_ok-values.ensures c.in_err-leave.ensures)
    (handed c.from_residual-in_err-leave.ensures.1)

pub returns : goal.returns
returns c =
    steps _
    (brackets OpenBrace CloseBrace c.in_ok-outside.ensures c.in_ok-values.ensures c.in_ok-leave.ensures)
    gives
