-- No two nodes of what `flow` answers wait at one site, since no two statements have its number.
use Rattle.std.proofs.Common.{◌≡◌, ◌⊎◌, inl, inr, ℕ, zero, suc, ◌+◌, ◌<◌, ◌≤◌, ◌==◌, ◌&&◌, not, nat_lt, Bool, true, false, IsTrue, filter, List, [], ◌∷◌, length, refl, arith}
use Rattle.std.proofs.lemmas.Bool.{and_parts, eqb-true}
use Rattle.std.proofs.lemmas.Bool.Decides.{nat_tests}
use Rattle.std.specs.List.{list_all, range_with_len}
use Rattle.cmm_program.specs.Liveness.{is_among}
use Rattle.cmm_program.specs.Numbering.{are_each_once, body_numbers, site_number}
use Rattle.cmm_flow.specs.Laws.{AnswersWaitOnce}
use Rattle.cmm_flow.specs.Waiting.{all_different, times, waiting_sites}
use Rattle.cmm_flow.proofs.LivenessWaiting.{each_tested}

-- ---- numbers that stand once each

-- how many numbers are below one
abbrev below : ℕ → List ℕ → ℕ
below n ns = length (filter (λ m. nat_lt m n) ns)

below_more : (n : ℕ) (ns : List ℕ) → below (suc n) ns ≡ below n ns + times n ns
below_more n [] = refl
below_more n (m ∷ ns) = grind (arith, nat_tests, below_more n ns)

below_zero : (ns : List ℕ) → below 0 ns ≡ 0
below_zero [] = refl
below_zero (m ∷ ns) = grind (arith, nat_tests, below_zero ns)

-- each number is below the one or not
beyond : (n k : ℕ) (ns : List ℕ) → n ≤ k → below n ns + times k ns ≤ length ns
beyond n k [] least = omega arith
beyond n k (m ∷ ns) least = grind (arith, nat_tests, beyond n k ns least)

-- where each below a count stands once, n are below it
all_below : (count : ℕ) (ns : List ℕ) → ((n : ℕ) → n < count → times n ns ≡ 1) → below count ns ≡ count
all_below zero ns once = below_zero ns
all_below (suc count) ns once =
    omega (arith, below_more count ns, all_below count ns (λ n less. once n (omega arith)), once count (omega arith))

each_once : (count : ℕ) (ns : List ℕ) → IsTrue (list_all (λ n. length (filter (λ m. m == n) ns) == 1) (range_with_len 0 count)) →
    (n : ℕ) → n < count → times n ns ≡ 1
each_once count ns all n less =
    eqb-true (times n ns) 1 (each_tested (λ n. length (filter (λ m. m == n) ns) == 1) 0 count n all (omega arith) (omega (arith, less)))

-- so none stands twice
pub at_most_once : (count : ℕ) (ns : List ℕ) → IsTrue (are_each_once count ns) → (n : ℕ) → times n ns ≤ 1
at_most_once count ns are n = by (cases n count)
  where
    both : IsTrue (length ns == count) × IsTrue (list_all (λ n. length (filter (λ m. m == n) ns) == 1) (range_with_len 0 count))
    both = and_parts (length ns == count) (list_all (λ n. length (filter (λ m. m == n) ns) == 1) (range_with_len 0 count)) are

    once : (n : ℕ) → n < count → times n ns ≡ 1
    once = each_once count ns both.1

    cases : (n m : ℕ) → (n < m) ⊎ (m ≤ n)
    cases n m = grind (arith, nat_tests)

    by : (n < count) ⊎ (count ≤ n) → times n ns ≤ 1
    by (inl less) = omega (arith, once n less)
    by (inr most) = omega (arith, all_below count ns once, eqb-true (length ns) count both.0, beyond count n ns most)

-- and only numbers below the count stand there
pub counted_below : (count : ℕ) (ns : List ℕ) → IsTrue (are_each_once count ns) → (n : ℕ) → 1 ≤ times n ns → n < count
counted_below count ns are n some = by (nat_lt n count) refl
  where
    both : IsTrue (length ns == count) × IsTrue (list_all (λ n. length (filter (λ m. m == n) ns) == 1) (range_with_len 0 count))
    both = and_parts (length ns == count) (list_all (λ n. length (filter (λ m. m == n) ns) == 1) (range_with_len 0 count)) are

    by : (b : Bool) → nat_lt n count ≡ b → n < count
    by true is = grind (arith, nat_tests, is)
    by false is =
        let most : count ≤ n = grind (arith, nat_tests, is) in
        omega (arith, some, all_below count ns (each_once count ns both.1), eqb-true (length ns) count both.0, beyond count n ns most)

-- ---- lists without a number twice

pub among_counted : (n : ℕ) (ns : List ℕ) → is_among n ns ≡ true → 1 ≤ times n ns
among_counted n [] is = absurd (cc)
among_counted n (m ∷ ns) is = grind (arith, nat_tests, among_counted n ns, is)

none_twice : (ns : List ℕ) → ((n : ℕ) → times n ns ≤ 1) → all_different ns ≡ true
none_twice [] most = refl
none_twice (m ∷ ns) most =
    let later : all_different ns ≡ true = none_twice ns (λ n. fewer n (most n)) in
    by (is_among m ns) refl later
  where
    fewer : (n : ℕ) → times n (m ∷ ns) ≤ 1 → times n ns ≤ 1
    fewer n most = grind (arith, nat_tests, most)

    by : (b : Bool) → is_among m ns ≡ b → all_different ns ≡ true → (not (is_among m ns) && all_different ns) ≡ true
    by true is later = absurd (let some = among_counted m ns is in let first = most m in grind (arith, nat_tests, some, first))
    by false is later = grind (arith, is, later)

pub answers_wait_once : AnswersWaitOnce
answers_wait_once p q g range is = none_twice (waiting_sites g.nodes) (λ n.
    let most = at_most_once (length q.sites) (body_numbers site_number q) range.sites_numbered n in
    omega (arith, is.waits n, most))
