use Rattle.cmm_elaboration.proofs.Weighing.{room_is_kept}
use Rattle.cmm_elaboration.proofs.laws.room_is_kept.Goals as goal

pub returns : goal.returns
returns c = room_is_kept
