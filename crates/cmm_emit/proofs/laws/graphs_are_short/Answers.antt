use Rattle.cmm_emit.proofs.Covering.{graphs_are_short}
use Rattle.cmm_emit.proofs.laws.graphs_are_short.Goals as goal

pub returns : goal.returns
returns c = graphs_are_short
