use Rattle.cmm_image.proofs.SizeLaws.{second_is_short}
use Rattle.cmm_image.proofs.laws.second_tables_are_short.Goals as goal

pub returns : goal.returns
returns c = second_is_short
