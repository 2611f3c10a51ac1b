-- The values of a yield stand in their places.
use Rattle.std.proofs.Common.{◌≡◌, ℕ, zero, suc, ◌+◌, ◌≤◌, ◌<◌, List, length, take, drop, slice_index, refl, arith}
use Rattle.std.proofs.Math.Seq.{drop-cons}
use Rattle.rv_table.specs.Machine.{State}
use Rattle.cmm_abi.specs.Regions.{Region, value_place, values_from, values_in, word_at}

from_places : (r : Region) (s : State) (xs : List ℕ) (k n : ℕ) → k + n ≤ length xs →
    ((j : ℕ) → j < length xs → slice_index xs j ≡ word_at s (value_place r j)) → take n (drop k xs) ≡ values_from r s k n
from_places r s xs k zero room each = refl
from_places r s xs k (suc n) room each =
    let here : k < length xs = omega arith in
    let rest = from_places r s xs (suc k) n (omega arith) each in
    let first = each k here in
    rw (drop-cons xs k 0 here) (cc (first, rest))

-- so the first ones are the values
pub values_are : (r : Region) (s : State) (xs : List ℕ) (n : ℕ) → length xs ≡ 64 → n ≤ 64 → ((j : ℕ) → j < 64 → slice_index xs j ≡ word_at s (value_place r j)) →
    take n xs ≡ values_in r s n
values_are r s xs n count few each = from_places r s xs 0 n (omega arith) (λ j below. each j (omega arith))
