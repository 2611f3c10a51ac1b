-- Who mentions each node, while they are listed.
use Rattle.std.specs.Prelude.{◌≡◌, ℕ, ◌+◌, ◌==◌, ◌<◌, Bool, true, false, List, [], length, replicate}
use Rattle.cmm_digraph.specs.Graphs.{occurrences, mentions}

-- as many nodes, which nobody mentions
abbrev pub nobody : ℕ → List (List ℕ)
nobody size = replicate size []

abbrev pub given : Bool → ℕ → ℕ
given test count = elim test [ true ↦ count | false ↦ 0 ]

-- a node is added to the users of each node that it mentions
pub record AreAdded (user : ℕ) (mentioned : List ℕ) (users users' : List (List ℕ)) : Type 0 where
  pub size : length users' ≡ length users
  pub counts : (v u : ℕ) → v < length users → occurrences u (mentions users' v) ≡ occurrences u (mentions users v) + given (user == u) (occurrences v mentioned)
