use Rattle.cmm_located.proofs.Calls.{calls_are_followed}
use Rattle.cmm_located.proofs.laws.calls_are_followed.Goals as goal

pub returns : goal.returns
returns c = calls_are_followed c.nodes_ask_by_reads.ensures.orders
