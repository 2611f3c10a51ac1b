use Rattle.cmm_located.proofs.Returns.{returns_are_followed}
use Rattle.cmm_located.proofs.laws.returns_are_followed.Goals as goal

pub returns : goal.returns
returns c = returns_are_followed c.nodes_ask_by_reads.ensures.orders
