use Rattle.cmm_located.proofs.Simulating.{located_runs_simulate_graphs}
use Rattle.cmm_located.proofs.laws.located_runs_simulate_graphs.Goals as goal

pub returns : goal.returns
returns c = located_runs_simulate_graphs c.nodes_ask_by_reads.ensures.orders c.nodes_ask_by_reads.ensures.values
