-- Fronts of lists.
use Rattle.std.proofs.Common.{◌≡◌, ℕ, List, length, take, min, arith}
use Rattle.std.proofs.lemmas.Grind.{common_steps}

-- no more can be taken than there are
pub take_min : (n : ℕ) (xs : List ℕ) → take (min (length xs) n) xs ≡ take n xs
take_min n xs = grind (arith, common_steps)
