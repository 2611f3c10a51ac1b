use Rattle.cmm_grammar.specs.PartReading.{annotations}
use Rattle.cmm_parser.proofs.Ended.{ends, stops_ending}
use Rattle.cmm_parser.proofs.Steps.{handed, steps, stopped, stops}
use Rattle.cmm_parser.proofs.parser.Parser.call.Goals as goal

pub returns-in_err-actuals : goal.returns-in_err-actuals
returns-in_err-actuals c = stops _ c.in_err-actuals.ensures (handed c.from_residual.ensures.1)

pub returns-in_err-flows : goal.returns-in_err-flows
returns-in_err-flows c = steps _ c.in_ok-actuals.ensures (stopped (stops_ending annotations _ c.in_err-flows.ensures) (handed c.from_residual-in_err-flows.ensures.1))

pub returns : goal.returns
returns c = steps _ c.in_ok-actuals.ensures (ends annotations _ c.in_ok-flows.ensures)
