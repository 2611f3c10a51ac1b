-- events that pass
use Rattle.cmm_simulation.proofs.SmallMachines.{tested_ticks_follow}
use Rattle.cmm_simulation.proofs.examples.events_pass.Goals as goal

pub returns : goal.returns
returns c = tested_ticks_follow
