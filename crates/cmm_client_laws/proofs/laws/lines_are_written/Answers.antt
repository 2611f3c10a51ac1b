use Rattle.cmm_client_laws.proofs.Lines.{lines_are_written}
use Rattle.cmm_client_laws.proofs.laws.lines_are_written.Goals as goal

pub returns : goal.returns
returns c = lines_are_written
