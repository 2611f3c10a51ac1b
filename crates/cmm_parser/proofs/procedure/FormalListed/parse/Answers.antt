use Rattle.cmm_parser.proofs.Steps.{handed, steps, stops, gives}
use Rattle.cmm_parser.proofs.procedure.FormalListed.parse.Goals as goal

pub returns-in_err-width : goal.returns-in_err-width
returns-in_err-width c = steps _ c.in_ok-modifiers.ensures (stops _ c.in_err-width.ensures (handed c.from_residual-in_err-width.ensures.1))

pub returns-in_err-name : goal.returns-in_err-name
returns-in_err-name c =
    steps _ c.in_ok-modifiers.ensures (steps _ c.in_ok-width.ensures (stops _ c.in_err-name.ensures (handed c.from_residual-in_err-name.ensures.1)))

pub returns : goal.returns
returns c =
    steps _ c.in_ok-modifiers.ensures (steps _ c.in_ok-width.ensures (steps _ c.in_ok-name.ensures gives))
