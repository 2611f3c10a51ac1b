-- Which nodes of an undirected graph peel away, so that a colouring by few colours can give each of them one (textbook colouring, after
-- Chaitin and others, Register allocation via coloring, 1981).
use Rattle.std.specs.Prelude.{ℕ, ◌∷◌, ◌++◌, ◌&&◌, not, nat_lt, Bool, true, IsTrue, List, [], length, filter}
use Rattle.std.specs.List.{range_with_len}
use Rattle.cmm_ilist.specs.NodeLists.{has}

-- how many neighbours of a node, among the nodes below a count, are not gone
abbrev pub degree_left : ℕ → (ℕ → ℕ → Bool) → List ℕ → ℕ → ℕ
degree_left count adjacent gone v =
    length (filter (λ w. adjacent v w && not (has w gone)) (range_with_len 0 count))

-- each node of a list has fewer than k neighbours that are neither gone nor before it
abbrev pub is_peeling : ℕ → (ℕ → ℕ → Bool) → ℕ → List ℕ → List ℕ → Bool
is_peeling count adjacent k gone [] = true
is_peeling count adjacent k gone (v ∷ vs) = nat_lt (degree_left count adjacent gone v) k && is_peeling count adjacent k (v ∷ gone) vs

-- some nodes can be listed, the node last, so that each has fewer than k neighbours that do not stand before it
pub record Peels (count : ℕ) (adjacent : ℕ → ℕ → Bool) (k v : ℕ) : Type 0 where
  pub earlier : List ℕ
  pub peeling : IsTrue (is_peeling count adjacent k [] (earlier ++ v ∷ []))
