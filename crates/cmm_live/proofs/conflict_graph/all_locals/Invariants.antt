use Rattle.std.proofs.Common.{◌≡◌, ◌<◌, ℕ, true, length}
use Rattle.cmm_bitset.specs.Sets.{has}
use Rattle.cmm_live.specs.Locals.{local_count}
use Rattle.cmm_live.proofs.conflict_graph.all_locals.Given as goal

abbrev pub invariant-loop-number : goal.invariant-loop-number
invariant-loop-number l = record {
  size : length l.set ≡ local_count l.g;
  all : (a : ℕ) → a < l.number → has l.set a ≡ true;
}
