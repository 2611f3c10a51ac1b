use Rattle.std.proofs.Common.{◌≡◌, ◌++◌, map, take}
use Rattle.cmm_digraph.specs.declared.search.Step.TheVariants.{Enter}
use Rattle.cmm_digraph.proofs.search.enter_all.Given as goal

abbrev pub invariant-loop-node : goal.invariant-loop-node
invariant-loop-node l = l.steps.items ≡ l.fn.steps.items ++ map Enter (take l.node-index l.nodes)
