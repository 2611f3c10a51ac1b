use Rattle.cmm_link.proofs.Tabled.{images_have}
use Rattle.cmm_link.proofs.laws.images_have_rows.Goals as goal

pub returns : goal.returns
returns c = images_have
