use Rattle.cmm_colour.proofs.Sorting.{AreSortedTo}
use Rattle.cmm_colour.proofs.worklists.sorted.Given as goal

abbrev pub invariant-loop-node : goal.invariant-loop-node
invariant-loop-node l = AreSortedTo l.k l.degrees l.node l.lists
