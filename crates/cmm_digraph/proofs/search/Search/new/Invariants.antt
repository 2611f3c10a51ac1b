use Rattle.std.proofs.Common.{◌≡◌, false, replicate, reverse}
use Rattle.cmm_digraph.specs.declared.search.State.TheVariants.{New}
use Rattle.cmm_digraph.proofs.Beginning.{entered_to}
use Rattle.cmm_digraph.proofs.search.Search.new.Given as goal

abbrev pub invariant-loop-node : goal.invariant-loop-node
invariant-loop-node l = (l.states.items ≡ replicate l.node New) × (reverse l.steps.items ≡ entered_to l.node) × (l.cyclic.items ≡ replicate l.node false)
