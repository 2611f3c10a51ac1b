use Rattle.cmm_grammar.specs.PartReading.{annotations}
use Rattle.cmm_parser.proofs.Ended.{ends, stops_ending}
use Rattle.cmm_parser.proofs.Steps.{handed, steps, stopped, stops}
use Rattle.cmm_parser.proofs.parser.Parser.checked_to.Goals as goal

pub returns-in_err-left : goal.returns-in_err-left
returns-in_err-left c = steps _ c.in_ok-operator.ensures (stops _ c.in_err-left.ensures (handed c.from_residual-in_err-left.ensures.1))

pub returns-in_err-flows : goal.returns-in_err-flows
returns-in_err-flows c = steps _ c.in_ok-operator.ensures (steps _ c.in_ok-left.ensures (stopped (stops_ending annotations _ c.in_err-flows.ensures) (handed c.from_residual-in_err-flows.ensures.1)))

pub returns : goal.returns
returns c = steps _ c.in_ok-operator.ensures (steps _ c.in_ok-left.ensures (ends annotations _ c.in_ok-flows.ensures))
