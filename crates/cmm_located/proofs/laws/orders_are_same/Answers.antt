use Rattle.cmm_located.proofs.Ordering.{same_orders}
use Rattle.cmm_located.proofs.laws.orders_are_same.Goals as goal

pub returns : goal.returns
returns c = same_orders c.nodes_ask_by_reads.ensures.orders
