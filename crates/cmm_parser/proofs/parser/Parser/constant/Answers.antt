use Rattle.cmm_parser.proofs.Steps.{halts, handed, steps, stops, gives}
use Rattle.cmm_parser.proofs.parser.Parser.constant.Goals as goal

pub returns-in_err-head : goal.returns-in_err-head
returns-in_err-head c = stops _ (halts _ c.in_err-head.ensures) (handed c.from_residual.ensures.1)

pub returns-in_err-width : goal.returns-in_err-width
returns-in_err-width c = stops _ (steps _ c.in_ok-head.ensures c.in_err-width.ensures) (handed c.from_residual-in_err-width.ensures.1)

pub returns-in_err-expect : goal.returns-in_err-expect
returns-in_err-expect c =
    steps _ (steps _ c.in_ok-head.ensures c.in_ok-width.ensures) (stops _ c.in_err-expect.ensures (handed c.from_residual-in_err-expect.ensures.1))

pub returns-in_err-value : goal.returns-in_err-value
returns-in_err-value c =
    steps _ (steps _ c.in_ok-head.ensures c.in_ok-width.ensures)
    (steps _ c.in_ok-expect.ensures (stops _ c.in_err-value.ensures (handed c.from_residual-in_err-value.ensures.1)))

pub returns-in_err-expect-2 : goal.returns-in_err-expect-2
returns-in_err-expect-2 c =
    steps _ (steps _ c.in_ok-head.ensures c.in_ok-width.ensures)
    (steps _ c.in_ok-expect.ensures (steps _ c.in_ok-value.ensures (stops _ c.in_err-expect-2.ensures (handed c.from_residual-in_err-expect-2.ensures.1))))

pub returns : goal.returns
returns c =
    steps _ (steps _ c.in_ok-head.ensures c.in_ok-width.ensures)
    (steps _ c.in_ok-expect.ensures (steps _ c.in_ok-value.ensures (steps _ c.in_ok-expect-2.ensures gives)))
