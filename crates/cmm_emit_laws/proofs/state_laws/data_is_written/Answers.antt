use Rattle.cmm_emit_laws.proofs.DataWritten.{data_is_written}
use Rattle.cmm_emit_laws.proofs.state_laws.data_is_written.Goals as goal

pub returns : goal.returns
returns c = data_is_written
