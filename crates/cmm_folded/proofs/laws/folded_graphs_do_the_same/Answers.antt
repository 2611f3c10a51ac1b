use Rattle.cmm_folded.proofs.Machines.{folded_graphs_do_the_same}
use Rattle.cmm_folded.proofs.laws.folded_graphs_do_the_same.Goals as goal

pub returns : goal.returns
returns c = folded_graphs_do_the_same
