use Rattle.std.proofs.Common.{◌≡◌, ℕ, ◌<◌, ◌≤◌, Some}
use Rattle.std.specs.Prelude.{◌≢◌, slice_get}
use Rattle.cmm_graph.specs.declared.node.Node.{Node}
use Rattle.cmm_hoist.proofs.hoisting.others_have_within.Given as goal

abbrev pub invariant-loop-index : goal.invariant-loop-index
invariant-loop-index l = (n : ℕ) (node : Node) → n < l.index → slice_get l.nodes n ≡ Some node → n ≢ l.g.first.number → node.tokens ≤ l.most
