-- How long lists are whose nodes are different.
use Rattle.std.proofs.Common.{◌≡◌, ◌≢◌, ◌⊎◌, inl, inr, ℕ, zero, suc, ◌+◌, ◌<◌, ◌≤◌, true, List, [], ◌∷◌, length, sym, ◌∙◌, ap, arith}
use Rattle.std.specs.List.{range_with_len}
use Rattle.std.proofs.lemmas.Bool.{cases_eq}
use Rattle.std.proofs.lemmas.List.FromFn.{length-range_with_len}
use Rattle.cmm_ilist.specs.NodeLists.{has, is_distinct, without}
use Rattle.cmm_ilist.proofs.Elements.{apart, distinct_first, distinct_rest, has_here, has_later, has_skip, without_has, without_here, without_skip}

without_fewer : (x : ℕ) (ys : List ℕ) → length (without x ys) ≤ length ys
without_fewer x [] = omega arith
without_fewer x (y ∷ ys) = by (cases_eq y x) (without_fewer x ys)
  where
    by : ((y ≡ x) ⊎ (y ≢ x)) → length (without x ys) ≤ length ys → length (without x (y ∷ ys)) ≤ suc (length ys)
    by (inl same) few = rw (same, without_here x ys) (omega (arith, few))
    by (inr other) few = rw (without_skip x y ys other) (omega (arith, few))

without_one : (x : ℕ) (ys : List ℕ) → has x ys ≡ true → suc (length (without x ys)) ≤ length ys
without_one x [] is = absurd (cc (is))
without_one x (y ∷ ys) is = by (cases_eq y x) (without_fewer x ys) (without_one x ys)
  where
    by : ((y ≡ x) ⊎ (y ≢ x)) → length (without x ys) ≤ length ys → (has x ys ≡ true → suc (length (without x ys)) ≤ length ys) →
        suc (length (without x (y ∷ ys))) ≤ suc (length ys)
    by (inl same) few one = rw (same, without_here x ys) (omega (arith, few))
    by (inr other) few one = rw (without_skip x y ys other) (omega (arith, one (sym (has_skip x y ys other) ∙ is)))

-- a list of different nodes is no longer than one that has them
pub fewer_nodes : (xs ys : List ℕ) → is_distinct xs ≡ true → ((z : ℕ) → has z xs ≡ true → has z ys ≡ true) → length xs ≤ length ys
fewer_nodes [] ys distinct all = omega arith
fewer_nodes (x ∷ xs) ys distinct all =
    let rest : length xs ≤ length (without x ys) = fewer_nodes xs (without x ys) (distinct_rest x xs distinct)
    (λ z is. without_has x z ys (λ same. apart x z xs (distinct_first x xs distinct) is (sym same)) ∙ all z (has_later z x xs is)) in
    let one : suc (length (without x ys)) ≤ length ys = without_one x ys (all x (has_here x xs)) in
    omega (arith, rest, one)

pub has_range : (n a z : ℕ) → a ≤ z → z < a + n → has z (range_with_len a n) ≡ true
has_range zero a z from to = absurd (omega (arith, from, to))
has_range (suc n) a z from to = elim (cases_eq a z) [
  | inl same ↦ ap (λ (m : ℕ). has z (m ∷ range_with_len (a + 1) n)) same ∙ has_here z (range_with_len (a + 1) n)
  | inr other ↦ has_later z a (range_with_len (a + 1) n) (has_range n (a + 1) z (omega (arith, from, other)) (omega (arith, to)))
]

-- different ones below a count are no more than it
pub few_below : (n : ℕ) (xs : List ℕ) → is_distinct xs ≡ true → ((z : ℕ) → has z xs ≡ true → z < n) → length xs ≤ n
few_below n xs distinct below =
    let few : length xs ≤ length (range_with_len 0 n) = fewer_nodes xs (range_with_len 0 n) distinct (λ z is. (let low : z < n = below z is in has_range n 0 z (omega arith) (omega (arith, low)))) in
    omega (arith, few, length-range_with_len 0 n)
