use Rattle.std.proofs.Common.{take}
use Rattle.cmm_digraph.specs.inside.Components.{IsLowest}
use Rattle.cmm_digraph.proofs.components.lowest_open.Given as goal

abbrev pub invariant-loop-node : goal.invariant-loop-node
invariant-loop-node l = IsLowest (take l.node-index l.nodes) l.states l.lowest
