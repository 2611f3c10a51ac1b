use Rattle.cmm_program.proofs.LivePaths.{liveness_is_by_paths}
use Rattle.cmm_program.proofs.laws.liveness_is_by_paths.Goals as goal

pub returns : goal.returns
returns c = liveness_is_by_paths
