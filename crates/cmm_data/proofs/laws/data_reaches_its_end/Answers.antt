use Rattle.cmm_data.proofs.Layable.{data_reaches}
use Rattle.cmm_data.proofs.laws.data_reaches_its_end.Goals as goal

pub returns : goal.returns
returns c = data_reaches
