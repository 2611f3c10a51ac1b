use Rattle.std.proofs.Common.{◌≡◌, ℕ, length, take}
use Rattle.cmm_digraph.specs.Graphs.{is_among}
use Rattle.cmm_unit_scope.specs.inside.Evaluating.{flag_at}
use Rattle.cmm_unit_scope.proofs.flags.flags_of.Given as goal

abbrev pub invariant-loop-node : goal.invariant-loop-node
invariant-loop-node l = (length l.flags ≡ l.count) × ((node : ℕ) → flag_at l.flags node ≡ is_among node (take l.node-index l.nodes))
