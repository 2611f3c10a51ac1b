use Rattle.cmm_folded.proofs.Flows.{flows_fold}
use Rattle.cmm_folded.proofs.laws.flows_fold.Goals as goal

pub returns : goal.returns
returns c = flows_fold
