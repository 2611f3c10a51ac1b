use Rattle.cmm_elaboration.proofs.Labels.{labels_are_there}
use Rattle.cmm_elaboration.proofs.laws.labels_are_there.Goals as goal

pub returns : goal.returns
returns c = labels_are_there
