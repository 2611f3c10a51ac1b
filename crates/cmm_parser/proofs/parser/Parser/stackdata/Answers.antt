use Rattle.cmm_lexer.specs.declared.symbol.Symbol.TheVariants.{OpenBrace, CloseBrace}
use Rattle.cmm_parser.proofs.Steps.{handed, steps, stops, gives, brackets, stops_inside, stops_closing}
use Rattle.cmm_parser.proofs.parser.Parser.stackdata.Goals as goal

pub returns-in_err-rooms : goal.returns-in_err-rooms
returns-in_err-rooms c =
    stops _ (stops_inside OpenBrace CloseBrace c.in_ok-outside.ensures c.in_err-rooms.ensures) (handed c.from_residual-in_err-rooms.ensures.1)

pub returns-in_err-leave : goal.returns-in_err-leave
returns-in_err-leave c =
    stops _
    (stops_closing OpenBrace CloseBrace c.in_ok-outside.ensures c.in_ok-rooms.ensures c.in_err-leave.ensures)
    (handed c.from_residual-in_err-leave.ensures.1)

pub returns : goal.returns
returns c =
    steps _
    (brackets OpenBrace CloseBrace c.in_ok-outside.ensures c.in_ok-rooms.ensures c.in_ok-leave.ensures)
    gives
