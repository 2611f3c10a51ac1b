-- words that are laid one after the other
use Rattle.std.proofs.Common.{◌≡◌, ◌≢◌, ℕ, zero, suc, ◌+◌, ◌*◌, ◌%◌, ◌<◌, ◌≤◌, ◌==◌, not, Bool, true, false, List, [], ◌∷◌, ◌++◌, map, length, drop, Option, Some, arith, refl, ap, ◌∙◌, subst, append_assoc}
use Rattle.std.specs.Prelude.{nat_le, is_some, filter, IsTrue, slice_index_or}
use Rattle.std.specs.List.{list_all, list_any}
use Rattle.std.proofs.lemmas.Bool.{and_from, and_parts}
use Rattle.std.proofs.lemmas.Bool.Decides.{nat_tests}
use Rattle.std.proofs.Math.Seq.{drop-cons}
use Rattle.cmm_chain.specs.Plans.{saved_in, saved_offsets, pair_offsets, is_fresh, are_distinct, is_word_in}
use Rattle.cmm_program.specs.declared.procedure.StackItem.{StackItem}
use Rattle.cmm_program.specs.InRange.{is_item}
use Rattle.cmm_program.specs.Typing.{is_alignment}
use Rattle.cmm_program.specs.Layout.{aligned_up, end_of, item_piece}
use Rattle.cmm_program.specs.Placed.{is_pair_in, apart, pairs_apart}
use Rattle.cmm_program.proofs.Shared.{end_of-grows}
use Rattle.cmm_located.specs.Layouts.{is_clear}
use Rattle.cmm_allocate.specs.inside.Laying.{words_from, pairs_from}

-- ---- tests

pub all_append : {A : Type 0} (test : A → Bool) (xs ys : List A) → list_all test xs ≡ true → list_all test ys ≡ true → list_all test (xs ++ ys) ≡ true
all_append test [] ys is_xs is_ys = is_ys
all_append test (x ∷ xs) ys is_xs is_ys =
    let parts = and_parts (test x) (list_all test xs) is_xs in
    and_from (test x) (list_all test (xs ++ ys)) parts.0 (all_append test xs ys parts.1 is_ys)

-- ---- a multiple of 16 from a place on

pub rounded : (x : ℕ) → (aligned_up 16 x % 16 ≡ 0) × (x ≤ aligned_up 16 x) × (aligned_up 16 x ≤ x + 15)
rounded x = (omega arith, omega arith, omega arith)

-- ---- words one after the other

abbrev pub consecutive : ℕ → ℕ → List ℕ
consecutive at zero = []
consecutive at (suc n) = at ∷ consecutive (at + 8) n

abbrev pub double : ℕ → ℕ
double zero = zero
double (suc k) = suc (suc (double k))

pub double_is : (k : ℕ) → double k ≡ 2 * k
double_is zero = refl
double_is (suc k) = let rest = double_is k in omega arith

pub saved_consecutive : (at : ℕ) (rs : List ℕ) → saved_offsets (words_from at rs) ≡ consecutive at (length rs)
saved_consecutive at [] = refl
saved_consecutive at (r ∷ rs) = ap (λ l. at ∷ l) (saved_consecutive (at + 8) rs)

pub pairs_consecutive : (at k : ℕ) → pair_offsets (pairs_from at k) ≡ consecutive at (double k)
pairs_consecutive at zero = refl
pairs_consecutive at (suc k) =
    let same : at + 16 ≡ at + 8 + 8 = omega arith in
    ap (λ l. at ∷ (at + 8) ∷ l) (pairs_consecutive (at + 16) k ∙ ap (λ a. consecutive a (double k)) same)

pub joined : (at m b n t : ℕ) → b ≡ at + 8 * m → t ≡ m + n → consecutive at m ++ consecutive b n ≡ consecutive at t
joined at zero b n t is_b is_t =
    let same : b ≡ at = omega arith in
    let count : n ≡ t = omega arith in
    ap (λ a. consecutive a n) same ∙ ap (λ k. consecutive at k) count
joined at (suc m) b n zero is_b is_t = absurd (omega arith)
joined at (suc m) b n (suc t) is_b is_t = ap (λ l. at ∷ l) (joined (at + 8) m b n t (omega arith) (omega arith))

pub words_inside : (size at n : ℕ) → at % 8 ≡ 0 → at + 8 * n ≤ size → list_all (is_word_in size) (consecutive at n) ≡ true
words_inside size at zero even le = refl
words_inside size at (suc n) even le =
    and_from (is_word_in size at) (list_all (is_word_in size) (consecutive (at + 8) n))
    (and_from (at % 8 == 0) (nat_le (at + 8) size) (grind (arith, nat_tests)) (let fits : at + 8 ≤ size = omega arith in grind (arith, nat_tests)))
    (words_inside size (at + 8) n (omega arith) (omega arith))

pub before_words : (o at n : ℕ) → o < at → is_fresh o (consecutive at n) ≡ true
before_words o at zero less = refl
before_words o at (suc n) less =
    and_from (not (o == at)) (is_fresh o (consecutive (at + 8) n)) (let other : o ≢ at = omega arith in grind (arith, nat_tests)) (before_words o (at + 8) n (omega arith))

pub words_distinct : (at n : ℕ) → are_distinct (consecutive at n) ≡ true
words_distinct at zero = refl
words_distinct at (suc n) =
    and_from (is_fresh at (consecutive (at + 8) n)) (are_distinct (consecutive (at + 8) n)) (before_words at (at + 8) n (omega arith)) (words_distinct (at + 8) n)

pub below_is_clear : (base size offset : ℕ) → offset + 8 ≤ base → is_clear base size offset ≡ true
below_is_clear base size offset le = grind (arith, nat_tests)

pub words_clear : (base size at n : ℕ) → at + 8 * n ≤ base → list_all (is_clear base size) (consecutive at n) ≡ true
words_clear base size at zero le = refl
words_clear base size at (suc n) le =
    and_from (is_clear base size at) (list_all (is_clear base size) (consecutive (at + 8) n)) (below_is_clear base size at (omega arith)) (words_clear base size (at + 8) n (omega arith))

-- ---- pairs

pub pairs_count : (at k : ℕ) → length (pairs_from at k) ≡ k
pairs_count at zero = refl
pairs_count at (suc k) = ap suc (pairs_count (at + 16) k)

pub pairs_inside : (size at k : ℕ) → at % 8 ≡ 0 → at + 16 * k ≤ size → list_all (is_pair_in size) (pairs_from at k) ≡ true
pairs_inside size at zero even le = refl
pairs_inside size at (suc k) even le =
    and_from (is_pair_in size at) (list_all (is_pair_in size) (pairs_from (at + 16) k))
    (and_from (at % 8 == 0) (nat_le (at + 16) size) (grind (arith, nat_tests)) (let fits : at + 16 ≤ size = omega arith in grind (arith, nat_tests)))
    (pairs_inside size (at + 16) k (omega arith) (omega arith))

pair_is_above : (offset size at : ℕ) → offset + size ≤ at → apart offset size at ≡ true
pair_is_above offset size at le = grind (arith, nat_tests)

pair_is_below : (offset size at : ℕ) → at + 16 ≤ offset → apart offset size at ≡ true
pair_is_below offset size at le = grind (arith, nat_tests)

pub pairs_above : (offset size at k : ℕ) → offset + size ≤ at → list_all (λ other. apart offset size other) (pairs_from at k) ≡ true
pairs_above offset size at zero le = refl
pairs_above offset size at (suc k) le =
    and_from (apart offset size at) (list_all (λ other. apart offset size other) (pairs_from (at + 16) k)) (pair_is_above offset size at le) (pairs_above offset size (at + 16) k (omega arith))

pub pairs_below : (offset size at k : ℕ) → at + 16 * k ≤ offset → list_all (λ other. apart offset size other) (pairs_from at k) ≡ true
pairs_below offset size at zero le = refl
pairs_below offset size at (suc k) le =
    and_from (apart offset size at) (list_all (λ other. apart offset size other) (pairs_from (at + 16) k)) (pair_is_below offset size at (omega arith)) (pairs_below offset size (at + 16) k (omega arith))

pub pairs_are_apart : (at k : ℕ) → pairs_apart (pairs_from at k) ≡ true
pairs_are_apart at zero = refl
pairs_are_apart at (suc k) =
    and_from (list_all (λ other. apart at 16 other) (pairs_from (at + 16) k)) (pairs_apart (pairs_from (at + 16) k)) (pairs_above at 16 (at + 16) k (omega arith)) (pairs_are_apart (at + 16) k)

-- one more pair
pub pairs_step : (xs total : List ℕ) (at n m : ℕ) → n ≡ suc m → xs ++ pairs_from at n ≡ total → (xs ++ at ∷ []) ++ pairs_from (at + 16) m ≡ total
pairs_step xs total at n m is before = append_assoc xs (at ∷ []) (pairs_from (at + 16) m) ∙ subst (λ n. xs ++ pairs_from at n ≡ total) is before

-- ---- saved registers

pub registers_are : (at : ℕ) (rs : List ℕ) → map (λ (s : ℕ × ℕ). s.0) (words_from at rs) ≡ rs
registers_are at [] = refl
registers_are at (r ∷ rs) = ap (λ l. r ∷ l) (registers_are (at + 8) rs)

pub words_count : (at : ℕ) (rs : List ℕ) → length (words_from at rs) ≡ length rs
words_count at [] = refl
words_count at (r ∷ rs) = ap suc (words_count (at + 8) rs)

pub filter_count : (test : ℕ → Bool) (xs : List ℕ) → length (filter test xs) ≤ length xs
filter_count test [] = omega arith
filter_count test (x ∷ xs) = by (filter_count test xs) (test x) refl
  where
    by : length (filter test xs) ≤ length xs → (b : Bool) → test x ≡ b → length (filter test (x ∷ xs)) ≤ length (x ∷ xs)
    by fewer true is = rw is (omega arith)
    by fewer false is = rw is (omega arith)

filter_keeps : (test : ℕ → Bool) (x : ℕ) (xs : List ℕ) → test x ≡ true → filter test (x ∷ xs) ≡ x ∷ filter test xs
filter_keeps test x xs is = rw is refl

saved_first : (r x at : ℕ) (rest : List (ℕ × ℕ)) → (r == x) ≡ true → is_some (saved_in ((x, at) ∷ rest) r) ≡ true
saved_first r x at rest is = ap (λ b. is_some (elim b as (λ _. Option ℕ) [ true ↦ Some at | false ↦ saved_in rest r ])) is

saved_later : (r x at : ℕ) (rest : List (ℕ × ℕ)) → (r == x) ≡ false → saved_in ((x, at) ∷ rest) r ≡ saved_in rest r
saved_later r x at rest is = ap (λ b. elim b as (λ _. Option ℕ) [ true ↦ Some at | false ↦ saved_in rest r ]) is

pub is_saved : (at r : ℕ) (test : ℕ → Bool) (xs : List ℕ) → list_any (λ x. r == x) xs ≡ true → test r ≡ true → is_some (saved_in (words_from at (filter test xs)) r) ≡ true
is_saved at r test [] is passes = absurd (cc)
is_saved at r test (x ∷ xs) is passes = by (λ at rest. is_saved at r test xs rest passes) (r == x) refl (test x) refl
  where
    by : ((at : ℕ) → list_any (λ x. r == x) xs ≡ true → is_some (saved_in (words_from at (filter test xs)) r) ≡ true) →
        (same : Bool) → (r == x) ≡ same → (b : Bool) → test x ≡ b → is_some (saved_in (words_from at (filter test (x ∷ xs))) r) ≡ true
    by later true is_same true is_x =
        ap (λ l. is_some (saved_in (words_from at l) r)) (filter_keeps test x xs is_x) ∙ saved_first r x at (words_from (at + 8) (filter test xs)) is_same
    by later true is_same false is_x =
        let eq : x ≡ r = grind (arith, nat_tests, is_same) in
        let fails : test r ≡ false = subst (λ n. test n ≡ false) eq is_x in
        absurd (cc)
    by later false is_other true is_x = let rest : list_any (λ y. r == y) xs ≡ true = rw is_other at is in
        ap (λ l. is_some (saved_in (words_from at l) r)) (filter_keeps test x xs is_x)
        ∙ (ap (λ (o : Option ℕ). is_some o) (saved_later r x at (words_from (at + 8) (filter test xs)) is_other) ∙ later (at + 8) rest)
    by later false is_other false is_x = let rest : list_any (λ y. r == y) xs ≡ true = rw is_other at is in rw is_x (later at rest)

-- ---- stackdata

-- one more item
pub item_is : (items : List StackItem) (i : ℕ) (d : StackItem) → i < length items → IsTrue (list_all is_item (drop i items)) →
    IsTrue (is_item (slice_index_or items i d)) × IsTrue (list_all is_item (drop (suc i) items))
item_is items i d less is =
    let here : IsTrue (list_all is_item (slice_index_or items i d ∷ drop (suc i) items)) = subst (λ l. IsTrue (list_all is_item l)) (drop-cons items i d less) is in
    and_parts (is_item (slice_index_or items i d)) (list_all is_item (drop (suc i) items)) here

pub item_ends : (items : List StackItem) (i : ℕ) (d : StackItem) (place size : ℕ) → i < length items → IsTrue (list_all is_item (drop i items)) →
    end_of place (map item_piece (drop i items)) ≡ size → aligned_up (slice_index_or items i d).align place + (slice_index_or items i d).length ≤ size
item_ends items i d place size less is ends =
    let item = slice_index_or items i d in
    let next = aligned_up item.align place + item.length in
    let here : end_of next (map item_piece (drop (suc i) items)) ≡ size =
    subst (λ l. end_of place (map item_piece l) ≡ size) (drop-cons items i d less) ends in
    omega (arith, here, end_of-grows next (drop (suc i) items) (item_is items i d less is).1)

pub item_aligned : (items : List StackItem) (i : ℕ) (d : StackItem) → i < length items → IsTrue (list_all is_item (drop i items)) → (slice_index_or items i d).align ≤ 16
item_aligned items i d less is =
    let here = (item_is items i d less is).0 in
    let aligned = (and_parts (is_alignment (slice_index_or items i d).align) _ here).0 in
    grind (arith, nat_tests, aligned)
