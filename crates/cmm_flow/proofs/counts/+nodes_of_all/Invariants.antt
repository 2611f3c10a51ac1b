use Rattle.std.proofs.Common.{length}
use Rattle.cmm_flow.proofs.counts.+nodes_of_all.Given as goal

abbrev pub decreases-nodes_of_all : goal.decreases-nodes_of_all
decreases-nodes_of_all l = length l.es.now
