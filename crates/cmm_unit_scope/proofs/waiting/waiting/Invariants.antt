use Rattle.std.proofs.Common.{◌≡◌, ℕ, ◌<◌, length, map}
use Rattle.cmm_symbols.specs.Shown.{shown}
use Rattle.cmm_digraph.specs.Graphs.{mentions}
use Rattle.cmm_unit_scope.specs.inside.Evaluating.{flag_at, waits_at}
use Rattle.cmm_unit_scope.proofs.waiting.waiting.Given as goal

abbrev pub invariant-loop-number : goal.invariant-loop-number
invariant-loop-number l =
    (length l.waits ≡ l.number) × ((v : ℕ) → v < l.number → mentions l.waits v ≡ waits_at (map shown l.declared) (flag_at l.cyclic) v)
