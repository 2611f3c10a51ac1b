use Rattle.cmm_located.proofs.Entries.{procedures_are_entered}
use Rattle.cmm_located.proofs.laws.procedures_are_entered.Goals as goal

pub returns : goal.returns
returns c = procedures_are_entered
