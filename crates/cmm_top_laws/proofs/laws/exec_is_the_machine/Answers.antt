use Rattle.cmm_top_laws.proofs.Calling.{exec_is_the_machine}
use Rattle.cmm_top_laws.proofs.laws.exec_is_the_machine.Goals as goal

pub returns : goal.returns
returns c = exec_is_the_machine
