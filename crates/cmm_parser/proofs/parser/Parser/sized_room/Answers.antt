use Rattle.cmm_parser.proofs.Steps.{handed, steps, stops, gives}
use Rattle.cmm_parser.proofs.parser.Parser.sized_room.Goals as goal

pub returns-in_err-count : goal.returns-in_err-count
returns-in_err-count c = stops _ c.in_err-count.ensures (handed c.from_residual.ensures.1)

pub returns-in_err-expect : goal.returns-in_err-expect
returns-in_err-expect c = steps _ c.in_ok-count.ensures (stops _ c.in_err-expect.ensures (handed c.from_residual-in_err-expect.ensures.1))

pub returns : goal.returns
returns c = steps _ c.in_ok-count.ensures (steps _ c.in_ok-expect.ensures gives)
