use Rattle.cmm_data.proofs.Addresses.{labels_lie_in_data}
use Rattle.cmm_data.proofs.laws.labels_in_data.Goals as goal

pub returns : goal.returns
returns c = labels_lie_in_data
