use Rattle.cmm_located.proofs.Assembling.{steps_are_followed}
use Rattle.cmm_located.proofs.laws.steps_are_followed.Goals as goal

pub returns : goal.returns
returns c = steps_are_followed c.nodes_ask_by_reads.ensures.orders c.nodes_ask_by_reads.ensures.values
