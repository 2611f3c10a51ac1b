use Rattle.cmm_graph.proofs.Writing.{unwritten_keeps_value}
use Rattle.cmm_graph.proofs.laws.nodes_change_what_they_write.Goals as goal

pub returns : goal.returns
returns c = unwritten_keeps_value
