use Rattle.cmm_flow.proofs.LivenessSets.{sets_are_of_procedure, sites_keep_liveness}
use Rattle.cmm_flow.proofs.laws.sites_keep_liveness.Goals as goal

pub returns-clause-sites : goal.returns-clause-sites
returns-clause-sites c = sites_keep_liveness

pub returns-clause-sets : goal.returns-clause-sets
returns-clause-sets c = sets_are_of_procedure c.liveness_is_by_paths.ensures
