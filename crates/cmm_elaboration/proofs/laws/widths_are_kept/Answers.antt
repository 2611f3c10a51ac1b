use Rattle.cmm_elaboration.proofs.Widths.{widths_are_kept}
use Rattle.cmm_elaboration.proofs.laws.widths_are_kept.Goals as goal

pub returns : goal.returns
returns c = widths_are_kept
