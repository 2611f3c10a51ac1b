use Rattle.cmm_elaboration.proofs.UnitOrder.{procedures_ascend}
use Rattle.cmm_elaboration.proofs.laws.procedures_ascend.Goals as goal

pub returns : goal.returns
returns c = procedures_ascend
