use Rattle.std.proofs.Common.{take}
use Rattle.cmm_digraph.specs.inside.Waiting.{AreNumbered}
use Rattle.cmm_digraph.proofs.waiting.nodes_that.Given as goal

abbrev pub invariant-loop-node : goal.invariant-loop-node
invariant-loop-node l = AreNumbered l.fn.wait (take l.node l.waiting) l.nodes
