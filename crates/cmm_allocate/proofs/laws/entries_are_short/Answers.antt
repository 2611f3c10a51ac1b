use Rattle.cmm_allocate.proofs.Placed.{entries_are_short}
use Rattle.cmm_allocate.proofs.laws.entries_are_short.Goals as goal

pub returns : goal.returns
returns c = entries_are_short
