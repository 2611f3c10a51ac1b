use Rattle.cmm_graph.proofs.Standing.{runs_stand_at_steps}
use Rattle.cmm_graph.proofs.laws.runs_stand_at_steps.Goals as goal

pub returns : goal.returns
returns c = runs_stand_at_steps
