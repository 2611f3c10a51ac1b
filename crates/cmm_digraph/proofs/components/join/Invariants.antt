use Rattle.std.proofs.Common.{◌≤◌, ◌<◌, ℕ, length, get_or}
use Rattle.cmm_digraph.proofs.components.join.Given as goal

abbrev pub invariant-loop-count : goal.invariant-loop-count
invariant-loop-count l = (l.count ≤ length l.starts.items) × ((k : ℕ) → l.count ≤ k → k < length l.starts.items → l.lowest < get_or l.starts.items k 0)

abbrev pub decreases-loop-count : goal.decreases-loop-count
decreases-loop-count l = l.count
