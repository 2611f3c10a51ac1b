use Rattle.std.proofs.Common.{◌≡◌, ℕ, ◌<◌, take, length}
use Rattle.cmm_digraph.specs.Graphs.{occurrences, mentions}
use Rattle.cmm_digraph.proofs.users.users_of.Given as goal

abbrev pub invariant-loop-user : goal.invariant-loop-user
invariant-loop-user l =
    (length l.users.items ≡ length l.graph)
    × ((v u : ℕ) → v < length l.graph → occurrences u (mentions l.users.items v) ≡ occurrences v (mentions (take l.user l.graph) u))
