-- Numbers in order stand once each.
use Rattle.std.proofs.Common.{◌≡◌, ℕ, zero, suc, ◌+◌, ◌<◌, ◌≤◌, refl, List, ◌∷◌, ◌++◌, arith, IsTrue, Bool, ap}
use Rattle.std.specs.Prelude.{◌==◌, length}
use Rattle.std.specs.List.{filter, list_all, range_with_len}
use Rattle.std.proofs.lemmas.Bool.Decides.{nat_tests}
use Rattle.std.proofs.lemmas.List.FromFn.{length-range_with_len}
use Rattle.cmm_program.specs.Numbering.{are_each_once}

pub range_append : (a m n : ℕ) → range_with_len a (m + n) ≡ range_with_len a m ++ range_with_len (a + m) n
range_append a zero n = rw (let e : 0 + n ≡ n = omega arith in e, let e : a + 0 ≡ a = omega arith in e) refl
range_append a (suc m) n =
    rw (let e : suc m + n ≡ suc (m + n) = omega arith in e, let e : a + suc m ≡ a + 1 + m = omega arith in e) (ap (λ t. a ∷ t) (range_append (a + 1) m n))

-- how often a number stands in a list
abbrev times : ℕ → List ℕ → ℕ
times n ns = length (filter (λ m. m == n) ns)

times_below : (n a k : ℕ) → n < a → times n (range_with_len a k) ≡ 0
times_below n a zero below = refl
times_below n a (suc k) below = grind (arith, nat_tests, times_below n (a + 1) k)

times_in : (n a k : ℕ) → a ≤ n → n < a + k → times n (range_with_len a k) ≡ 1
times_in n a zero low high = grind (arith, nat_tests)
times_in n a (suc k) low high = grind (arith, nat_tests, times_in n (a + 1) k, times_below n (a + 1) k)

all_in : (test : ℕ → Bool) (a k : ℕ) → ((n : ℕ) → a ≤ n → n < a + k → IsTrue (test n)) → IsTrue (list_all test (range_with_len a k))
all_in test a zero each = grind (arith, nat_tests)
all_in test a (suc k) each = grind (arith, nat_tests, each a, all_in test (a + 1) k (λ n low high. each n (omega arith) (omega arith)))

pub each_once : (count : ℕ) → IsTrue (are_each_once count (range_with_len 0 count))
each_once count =
    let all : IsTrue (list_all (λ n. times n (range_with_len 0 count) == 1) (range_with_len 0 count)) =
    all_in (λ n. times n (range_with_len 0 count) == 1) 0 count (λ n low high. grind (arith, nat_tests, times_in n 0 count low high)) in
    grind (arith, nat_tests, length-range_with_len 0 count)
