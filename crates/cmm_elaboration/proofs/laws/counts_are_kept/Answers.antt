use Rattle.cmm_elaboration.proofs.Weighing.{counts_are_kept}
use Rattle.cmm_elaboration.proofs.laws.counts_are_kept.Goals as goal

pub returns : goal.returns
returns c = counts_are_kept
