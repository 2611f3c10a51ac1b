-- Values that are put in their places, one after the other.
use Rattle.std.proofs.Common.{◌≡◌, ℕ, zero, suc, ◌+◌, List, [], ◌∷◌, take, slice_get, Some, refl, ap, ◌∙◌, arith, add-zero, add-one}
use Rattle.rv_table.specs.Machine.{State}
use Rattle.cmm_abi.specs.Regions.{Region, value_place, with_values, with_values_from, with_word}

from_more : (r : Region) (k : ℕ) (vs : List ℕ) (n v : ℕ) (s : State) → slice_get vs n ≡ Some v →
    with_values_from r k (take (suc n) vs) s ≡ with_word (value_place r (k + n)) v (with_values_from r k (take n vs) s)
from_more r k [] n v s is = absurd cc
from_more r k (x ∷ xs) zero v s is = let same : x ≡ v = cc in rw (same, add-zero k) refl
from_more r k (x ∷ xs) (suc n) v s is =
    let place : suc k + n ≡ k + suc n = omega arith in
    from_more r (suc k) xs n v (with_word (value_place r k) x s) is
    ∙ ap (λ (j : ℕ). with_word (value_place r j) v (with_values_from r (suc k) (take n xs) (with_word (value_place r k) x s))) place

pub one_more : (r : Region) (vs : List ℕ) (n v : ℕ) (s : State) → slice_get vs n ≡ Some v →
    with_values r (take (n + 1) vs) s ≡ with_word (value_place r n) v (with_values r (take n vs) s)
one_more r vs n v s is = rw (add-one n) (from_more r 0 vs n v s is ∙ ap (λ (j : ℕ). with_word (value_place r j) v (with_values r (take n vs) s)) (omega arith))
