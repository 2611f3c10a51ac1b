use Rattle.cmm_elaboration.proofs.SiteNumbers.{sites_are_in_order}
use Rattle.cmm_elaboration.proofs.laws.sites_are_in_order.Goals as goal

pub returns : goal.returns
returns c = sites_are_in_order
