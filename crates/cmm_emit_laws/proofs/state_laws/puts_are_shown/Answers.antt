use Rattle.cmm_emit_laws.proofs.Carrying.{puts_show}
use Rattle.cmm_emit_laws.proofs.state_laws.puts_are_shown.Goals as goal

pub returns : goal.returns
returns c = puts_show
