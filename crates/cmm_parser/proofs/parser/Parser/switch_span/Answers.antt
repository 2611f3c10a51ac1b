use Rattle.cmm_parser.proofs.Steps.{handed, stopped, stops_inside, stops_closing}
use Rattle.cmm_lexer.specs.declared.symbol.Symbol.TheVariants.{OpenSquare, CloseSquare}
use Rattle.cmm_parser.proofs.parser.Parser.switch_span.Goals as goal

pub returns-in_err-span : goal.returns-in_err-span
returns-in_err-span c = stopped (stops_inside OpenSquare CloseSquare c.in_ok-outside.ensures c.in_err-span.ensures) (handed c.from_residual-in_err-span.ensures.1)

pub returns-in_err-leave : goal.returns-in_err-leave
returns-in_err-leave c = stopped (stops_closing OpenSquare CloseSquare c.in_ok-outside.ensures c.in_ok-span.ensures c.in_err-leave.ensures) (handed c.from_residual-in_err-leave.ensures.1)
