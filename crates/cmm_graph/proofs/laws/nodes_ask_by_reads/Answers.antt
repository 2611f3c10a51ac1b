use Rattle.cmm_graph.proofs.Reading.{value_is_by_reads, order_is_by_reads}
use Rattle.cmm_graph.proofs.laws.nodes_ask_by_reads.Goals as goal

pub returns-clause-values : goal.returns-clause-values
returns-clause-values c = value_is_by_reads

pub returns-clause-orders : goal.returns-clause-orders
returns-clause-orders c = order_is_by_reads
