use Rattle.cmm_elaboration.proofs.ProgramLimits.{limits_are_kept}
use Rattle.cmm_elaboration.proofs.laws.limits_are_kept.Goals as goal

pub returns : goal.returns
returns c = limits_are_kept
