use Rattle.cmm_image.proofs.FirstLaws.{second_keeps_first}
use Rattle.cmm_image.proofs.laws.second_tables_keep_the_first.Goals as goal

pub returns : goal.returns
returns c = second_keeps_first
