use Rattle.cmm_digraph.specs.inside.Searched.{IsSearch, work}
use Rattle.cmm_digraph.proofs.cycles.on_cycles.Given as goal

abbrev pub invariant-loop-step : goal.invariant-loop-step
invariant-loop-step l = IsSearch l.graph l.search

abbrev pub decreases-loop-step : goal.decreases-loop-step
decreases-loop-step l = work l.graph l.search
