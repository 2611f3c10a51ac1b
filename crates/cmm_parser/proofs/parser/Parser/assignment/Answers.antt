use Rattle.cmm_parser.proofs.Steps.{handed, steps, stops}
use Rattle.cmm_parser.proofs.parser.Parser.assignment.Goals as goal

pub returns-in_err-targets : goal.returns-in_err-targets
returns-in_err-targets c = stops _ c.in_err-targets.ensures (handed c.from_residual.ensures.1)

pub returns : goal.returns
returns c = steps _ c.in_ok-targets.ensures (steps _ c.in_ok-expect.ensures (c.assigned.ensures))
