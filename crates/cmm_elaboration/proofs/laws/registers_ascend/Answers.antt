use Rattle.cmm_elaboration.proofs.RegisterNames.{registers_ascend}
use Rattle.cmm_elaboration.proofs.laws.registers_ascend.Goals as goal

pub returns : goal.returns
returns c = registers_ascend
