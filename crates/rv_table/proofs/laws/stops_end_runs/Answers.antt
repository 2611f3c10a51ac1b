use Rattle.rv_table.proofs.Stops.{steps_none_if_asks, steps_none_if_traps}
use Rattle.rv_table.proofs.laws.stops_end_runs.Goals as goal

pub returns : goal.returns
returns c = record { request = steps_none_if_asks; trap = steps_none_if_traps }
