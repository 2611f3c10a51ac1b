-- A graph peeled: an order of nodes in which what is mentioned comes first, and the nodes that are left because they are on a cycle or lead to one.
use Rattle.std.specs.Prelude.{◌≡◌, ℕ, ◌+◌, ◌<◌, Bool, true, ◌&&◌, List, [], ◌∷◌, ◌++◌, length}
use Rattle.std.specs.List.{list_all, list_any}
use Rattle.cmm_digraph.specs.Graphs.{occurrences, is_among, are_among, are_below, mentions}

-- each of some nodes mentions only those before it
abbrev pub is_ordered : List (List ℕ) → List ℕ → List ℕ → Bool
is_ordered graph before [] = true
is_ordered graph before (v ∷ vs) = are_among (mentions graph v) before && is_ordered graph (before ++ v ∷ []) vs

-- each of some nodes mentions one of them
abbrev pub is_stuck : List (List ℕ) → List ℕ → Bool
is_stuck graph left = list_all (λ v. list_any (λ m. is_among m left) (mentions graph v)) left

pub record IsPeeled (graph : List (List ℕ)) (order left : List ℕ) : Type 0 where
  -- each node stands in one of the two, once
  pub once : (v : ℕ) → v < length graph → occurrences v order + occurrences v left ≡ 1
  pub nodes : are_below (length graph) (order ++ left) ≡ true
  pub all : length order + length left ≡ length graph
  pub ordered : is_ordered graph [] order ≡ true
  pub stuck : is_stuck graph left ≡ true
