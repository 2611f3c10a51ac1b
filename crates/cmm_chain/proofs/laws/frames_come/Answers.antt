use Rattle.cmm_chain.proofs.Entering.{entered_is_framed}
use Rattle.cmm_chain.proofs.laws.frames_come.Goals as goal

pub returns-clause-entered : goal.returns-clause-entered
returns-clause-entered c = entered_is_framed
