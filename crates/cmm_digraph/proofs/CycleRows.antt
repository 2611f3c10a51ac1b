-- Small graphs.
use Rattle.std.proofs.Common.{◌≡◌, ℕ, true, false, List, [], ◌∷◌, map, refl}
use Rattle.cmm_digraph.specs.Reaching.{comes_back}

-- 0 leads to the cycle of 1 and 2, which leads to 3, and 4 mentions itself
abbrev pair : List (List ℕ)
pair = (1 ∷ []) ∷ (2 ∷ []) ∷ (1 ∷ 3 ∷ []) ∷ [] ∷ (4 ∷ []) ∷ []

on_cycles : map (comes_back pair) (0 ∷ 1 ∷ 2 ∷ 3 ∷ 4 ∷ []) ≡ (false ∷ true ∷ true ∷ false ∷ true ∷ [])
on_cycles = refl
