use Rattle.cmm_image.proofs.BoundLaws.{rows_are_bounded}
use Rattle.cmm_image.proofs.laws.rows_are_bounded.Goals as goal

pub returns : goal.returns
returns c = rows_are_bounded
