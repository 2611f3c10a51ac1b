use Rattle.cmm_top_laws.proofs.Calling.{gen_is_the_machine}
use Rattle.cmm_top_laws.proofs.laws.gen_is_the_machine.Goals as goal

pub returns : goal.returns
returns c = gen_is_the_machine
