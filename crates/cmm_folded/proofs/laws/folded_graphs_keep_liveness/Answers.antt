use Rattle.cmm_folded.proofs.Liveness.{folded_graphs_keep_liveness}
use Rattle.cmm_folded.proofs.laws.folded_graphs_keep_liveness.Goals as goal

pub returns : goal.returns
returns c = folded_graphs_keep_liveness
