use Rattle.std.proofs.Common.{ℕ, ◌<◌, ◌-◌, cond}
use Rattle.std.specs.Prelude.{All, Contains}
use Rattle.cmm_live.proofs.worklist.Worklist.of_all.Given as goal

abbrev pub invariant-loop-index : goal.invariant-loop-index
invariant-loop-index l = record {
  within : All (λ n. n < l.count) l.nodes.items;
  placed : (n : ℕ) → n < l.index → Contains l.nodes.items (cond l.last_first n (l.count - 1 - n));
}
