use Rattle.cmm_emit_laws.proofs.Placing.{finished_code_stands}
use Rattle.cmm_emit_laws.proofs.laws.finished_code_stands.Goals as goal

pub returns : goal.returns
returns c = finished_code_stands
