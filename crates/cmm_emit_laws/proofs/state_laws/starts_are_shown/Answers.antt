use Rattle.cmm_emit_laws.proofs.StartingStates.{starts_are_shown}
use Rattle.cmm_emit_laws.proofs.state_laws.starts_are_shown.Goals as goal

pub returns : goal.returns
returns c = starts_are_shown
