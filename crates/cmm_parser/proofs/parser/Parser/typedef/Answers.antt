use Rattle.cmm_parser.proofs.Steps.{handed, steps, stops, gives}
use Rattle.cmm_parser.proofs.parser.Parser.typedef.Goals as goal

pub returns-in_err-width : goal.returns-in_err-width
returns-in_err-width c = stops _ c.in_err-width.ensures (handed c.from_residual.ensures.1)

pub returns-in_err-names : goal.returns-in_err-names
returns-in_err-names c = steps _ c.in_ok-width.ensures (stops _ c.in_err-names.ensures (handed c.from_residual-in_err-names.ensures.1))

pub returns-in_err-expect : goal.returns-in_err-expect
returns-in_err-expect c =
    steps _ c.in_ok-width.ensures (steps _ c.in_ok-names.ensures (stops _ c.in_err-expect.ensures (handed c.from_residual-in_err-expect.ensures.1)))

pub returns : goal.returns
returns c = steps _ c.in_ok-width.ensures (steps _ c.in_ok-names.ensures (steps _ c.in_ok-expect.ensures gives))
