use Rattle.cmm_elaboration.proofs.SiteParts.{sites_are_there}
use Rattle.cmm_elaboration.proofs.laws.sites_are_there.Goals as goal

pub returns : goal.returns
returns c = sites_are_there
