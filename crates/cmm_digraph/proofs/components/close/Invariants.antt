use Rattle.std.proofs.Common.{take}
use Rattle.cmm_digraph.specs.inside.Components.{AreClosed}
use Rattle.cmm_digraph.proofs.components.close.Given as goal

abbrev pub invariant-loop-node : goal.invariant-loop-node
invariant-loop-node l = AreClosed (take l.node-index l.nodes) l.fn.states.items l.states.items
