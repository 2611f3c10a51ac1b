use Rattle.cmm_lexer.specs.declared.symbol.Symbol.TheVariants.{OpenSquare, CloseSquare}
use Rattle.cmm_parser.proofs.Steps.{handed, stopped, stops_inside, stops_closing}
use Rattle.cmm_parser.proofs.parser.Parser.room_size.Goals as goal

pub returns-in_err-size : goal.returns-in_err-size
returns-in_err-size c =
    stopped (stops_inside OpenSquare CloseSquare c.in_ok-outside.ensures c.in_err-size.ensures) (handed c.from_residual-in_err-size.ensures.1)

pub returns-in_err-leave : goal.returns-in_err-leave
returns-in_err-leave c =
    stopped
    (stops_closing OpenSquare CloseSquare c.in_ok-outside.ensures c.in_ok-size.ensures c.in_err-leave.ensures)
    (handed c.from_residual-in_err-leave.ensures.1)
