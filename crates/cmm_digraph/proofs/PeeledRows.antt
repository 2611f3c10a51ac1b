-- Worked graphs: a chain of three nodes and one that mentions itself; two nodes that mention each other, and one that leads to them.
use Rattle.std.proofs.Common.{◌≡◌, ℕ, Bool, true, false, List, [], ◌∷◌, refl}
use Rattle.cmm_digraph.specs.Graphs.{occurrences, is_graph}
use Rattle.cmm_digraph.specs.Peeled.{is_ordered, is_stuck}

abbrev chain : List (List ℕ)
chain = (1 ∷ []) ∷ (2 ∷ []) ∷ [] ∷ (3 ∷ []) ∷ []

abbrev pair : List (List ℕ)
pair = (1 ∷ []) ∷ (0 ∷ []) ∷ (1 ∷ []) ∷ []

graph-chain : ◌≡◌ {A = List Bool} (is_graph chain ∷ is_graph pair ∷ is_graph ((1 ∷ []) ∷ []) ∷ []) (true ∷ true ∷ false ∷ [])
graph-chain = refl

ordered-chain : ◌≡◌ {A = List Bool} (is_ordered chain [] (2 ∷ 1 ∷ 0 ∷ []) ∷ is_ordered chain [] (2 ∷ 0 ∷ 1 ∷ []) ∷ is_ordered chain [] (3 ∷ []) ∷ []) (true ∷ false ∷ false ∷ [])
ordered-chain = refl

stuck-chain : ◌≡◌ {A = List Bool} (is_stuck chain (3 ∷ []) ∷ is_stuck chain (2 ∷ 3 ∷ []) ∷ is_stuck pair (0 ∷ 1 ∷ 2 ∷ []) ∷ is_stuck pair (0 ∷ 2 ∷ []) ∷ []) (true ∷ false ∷ true ∷ false ∷ [])
stuck-chain = refl

occurrences-pair : occurrences 1 (1 ∷ 0 ∷ 1 ∷ []) ≡ 2
occurrences-pair = refl
