-- What peels in a graph peels where there are fewer conflicts.
use Rattle.std.proofs.Common.{◌≡◌, ℕ, zero, suc, ◌+◌, ◌<◌, ◌≤◌, nat_lt, Bool, true, false, ◌&&◌, not, cond, List, [], ◌∷◌, ◌++◌, length, refl, arith}
use Rattle.std.proofs.lemmas.Bool.{and_from, and_parts}
use Rattle.std.proofs.lemmas.Bool.Decides.{nat_tests}
use Rattle.std.specs.List.{filter, range_with_len}
use Rattle.cmm_ilist.specs.NodeLists.{has}
use Rattle.cmm_colour.specs.Peeling.{Peels, degree_left, is_peeling}

fewer_pass : (first second : ℕ → Bool) (from count : ℕ) → ((w : ℕ) → w < from + count → first w ≡ true → second w ≡ true) →
    length (filter first (range_with_len from count)) ≤ length (filter second (range_with_len from count))
fewer_pass first second from zero so = omega arith
fewer_pass first second from (suc count) so = by (first from) (second from) refl refl (fewer_pass first second (from + 1) count (λ w less passes. so w (omega (arith, less)) passes))
  where
    by : (a b : Bool) → first from ≡ a → second from ≡ b →
        length (filter first (range_with_len (from + 1) count)) ≤ length (filter second (range_with_len (from + 1) count)) →
        length (cond (first from) (from ∷ filter first (range_with_len (from + 1) count)) (filter first (range_with_len (from + 1) count)))
        ≤ length (cond (second from) (from ∷ filter second (range_with_len (from + 1) count)) (filter second (range_with_len (from + 1) count)))
    by true true is also rest = rw (is, also) (omega (arith, rest))
    by true false is also rest = (let passes = so from (omega arith) is in absurd (cc (passes, also)))
    by false true is also rest = rw (is, also) (omega (arith, rest))
    by false false is also rest = rw (is, also) rest

module _ (count k : ℕ) (few many : ℕ → ℕ → Bool) (so : (v w : ℕ) → w < count → few v w ≡ true → many v w ≡ true) where
  degrees_less : (gone : List ℕ) (v : ℕ) → degree_left count few gone v ≤ degree_left count many gone v
  degrees_less gone v = fewer_pass (λ w. few v w && not (has w gone)) (λ w. many v w && not (has w gone)) 0 count
      (λ w less passes.
      let both = and_parts (few v w) (not (has w gone)) passes in and_from (many v w) (not (has w gone)) (so v w (omega (arith, less)) both.0) both.1)

  still_peels : (gone vs : List ℕ) → is_peeling count many k gone vs ≡ true → is_peeling count few k gone vs ≡ true
  still_peels gone [] is = refl
  still_peels gone (v ∷ vs) is =
      let both = and_parts (nat_lt (degree_left count many gone v) k) (is_peeling count many k (v ∷ gone) vs) is in
      let low : degree_left count many gone v < k = grind (arith, nat_tests, both.0) in
      let less = degrees_less gone v in
      let lower : degree_left count few gone v < k = omega (arith, low, less) in
      and_from (nat_lt (degree_left count few gone v) k) (is_peeling count few k (v ∷ gone) vs) (grind (arith, nat_tests, lower)) (still_peels (v ∷ gone) vs both.1)

  pub peels_less : (v : ℕ) → Peels count many k v → Peels count few k v
  peels_less v peels = record { earlier = peels.earlier; peeling = still_peels [] (peels.earlier ++ v ∷ []) peels.peeling }
