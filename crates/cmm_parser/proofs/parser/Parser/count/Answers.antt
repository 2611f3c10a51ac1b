use Rattle.std.proofs.Common.{◌∙◌}
use Rattle.cmm_lexer.specs.declared.symbol.Symbol.TheVariants.{OpenSquare, CloseSquare}
use Rattle.cmm_parser.proofs.Steps.{handed, loosely, steps, stops, holds, gives_same, brackets, stops_inside, stops_closing}
use Rattle.cmm_parser.proofs.parser.Parser.count.Goals as goal

pub returns-in_err-count : goal.returns-in_err-count
returns-in_err-count c =
    loosely (holds (c.is_symbol.ensures ∙ c.if-is_symbol.true)
    (stops _ (stops_inside OpenSquare CloseSquare c.in_ok-outside.ensures c.in_err-count.ensures) (handed c.from_residual-in_err-count.ensures.1)))

pub returns-in_err-leave : goal.returns-in_err-leave
returns-in_err-leave c =
    loosely (holds (c.is_symbol.ensures ∙ c.if-is_symbol.true)
    (stops _
    (stops_closing OpenSquare CloseSquare c.in_ok-outside.ensures c.in_ok-count.ensures c.in_err-leave.ensures)
    (handed c.from_residual-in_err-leave.ensures.1)))

pub returns-then-is_symbol : goal.returns-then-is_symbol
returns-then-is_symbol c =
    loosely (holds (c.is_symbol.ensures ∙ c.if-is_symbol.true)
    (steps _
    (brackets OpenSquare CloseSquare c.in_ok-outside.ensures c.in_ok-count.ensures c.in_ok-leave.ensures)
    (gives_same c.count_of.ensures)))
