use Rattle.cmm_located.proofs.Yields.{yields_are_followed}
use Rattle.cmm_located.proofs.laws.yields_are_followed.Goals as goal

pub returns : goal.returns
returns c = yields_are_followed c.nodes_ask_by_reads.ensures.orders
