use Rattle.cmm_link.proofs.Placements.{images_show}
use Rattle.cmm_link.proofs.laws.images_show_placements.Goals as goal

pub returns : goal.returns
returns c = images_show
