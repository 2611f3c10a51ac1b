-- Undirected graphs: for each node, a number from 0 on, the nodes that are joined to it.
use Rattle.std.specs.Prelude.{◌≡◌, ◌≢◌, ℕ, ◌<◌, ◌^◌, ◌++◌, Bool, true, List, [], ◌∷◌, length, slice_index_or, slice_set}
use Rattle.cmm_ilist.specs.NodeLists.{has}

abbrev pub row : List (List ℕ) → ℕ → List ℕ
row graph v = slice_index_or graph v []

abbrev pub adjacent : List (List ℕ) → ℕ → ℕ → Bool
adjacent graph v w = has w (row graph v)

-- two nodes more are joined
abbrev pub joined : ℕ → ℕ → List (List ℕ) → List (List ℕ)
joined a b graph = slice_set (slice_set graph a (row graph a ++ b ∷ [])) b (row graph b ++ a ∷ [])

pub record IsUndirected (graph : List (List ℕ)) : Type 0 where
  pub few : length graph < 2 ^ 32
  pub within : (v w : ℕ) → adjacent graph v w ≡ true → w < length graph
  pub different : (v w : ℕ) → adjacent graph v w ≡ true → v ≢ w
  pub both : (v w : ℕ) → adjacent graph v w ≡ true → adjacent graph w v ≡ true
