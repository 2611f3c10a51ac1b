use Rattle.cmm_image_machine.proofs.Finding.{sites_are_found}
use Rattle.cmm_image_machine.proofs.laws.sites_are_found.Goals as goal

pub returns : goal.returns
returns c = sites_are_found
