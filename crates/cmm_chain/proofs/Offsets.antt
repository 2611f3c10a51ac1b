-- what the tests of layouts say
use Rattle.std.proofs.lemmas.Bool.{and_parts}
use Rattle.std.proofs.Common.{◌≡◌, ◌≢◌, ℕ, zero, suc, ◌+◌, ◌≤◌, ◌%◌, ◌==◌, ◌&&◌, not, Bool, true, false, List, [], ◌∷◌, ◌++◌, Option, Some, None, arith, refl}
use Rattle.std.specs.Prelude.{slice_get, nat_le, is_some}
use Rattle.std.specs.List.{list_all}
use Rattle.std.proofs.lemmas.Bool.Decides.{nat_tests}
use Rattle.cmm_chain.specs.declared.frame.Frame.{Frame}
use Rattle.cmm_chain.specs.Plans.{saved_in, saved_offsets, pair_offsets, fixed_offsets, is_fresh, are_distinct, is_word_in, is_laid}

pub other_number : (a b : ℕ) → not (a == b) ≡ true → a ≢ b
other_number a b is = grind (arith, nat_tests)

pub some_of : {A : Type 0} (o : Option A) → is_some o ≡ true → (a : A) × (o ≡ Some a)
some_of (Some a) is = (a, refl)
some_of None is = absurd (cc)

-- ---- the same as facts

abbrev pub IsFresh : ℕ → List ℕ → Type 0
IsFresh o [] = Unit {0}
IsFresh o (other ∷ os) = (o ≢ other) × IsFresh o os

abbrev pub AreDistinct : List ℕ → Type 0
AreDistinct [] = Unit {0}
AreDistinct (o ∷ os) = IsFresh o os × AreDistinct os

abbrev pub AreInside : ℕ → List ℕ → Type 0
AreInside size [] = Unit {0}
AreInside size (o ∷ os) = (o + 8 ≤ size) × AreInside size os

pub record IsLaidOut (f : Frame) : Type 0 where
  pub distinct : AreDistinct (fixed_offsets f)
  pub inside : AreInside f.size (fixed_offsets f)

pub fresh : (o : ℕ) (os : List ℕ) → is_fresh o os ≡ true → IsFresh o os
fresh o [] is = tt
fresh o (other ∷ os) is =
    let parts = and_parts (not (o == other)) (is_fresh o os) is in
    (other_number o other parts.0, fresh o os parts.1)

pub distinct : (os : List ℕ) → are_distinct os ≡ true → AreDistinct os
distinct [] is = tt
distinct (o ∷ os) is =
    let parts = and_parts (is_fresh o os) (are_distinct os) is in
    (fresh o os parts.0, distinct os parts.1)

pub word_inside : (size o : ℕ) → is_word_in size o ≡ true → o + 8 ≤ size
word_inside size o is = let parts = and_parts (o % 8 == 0) (nat_le (o + 8) size) is in grind (arith, nat_tests, parts.1)

pub inside : (size : ℕ) (os : List ℕ) → list_all (is_word_in size) os ≡ true → AreInside size os
inside size [] is = tt
inside size (o ∷ os) is =
    let parts = and_parts (is_word_in size o) (list_all (is_word_in size) os) is in
    (word_inside size o parts.0, inside size os parts.1)

pub laid_out : (f : Frame) → is_laid f ≡ true → IsLaidOut f
laid_out f is =
    let words = (and_parts (f.size % 16 == 0) _ is).1 in
    let parts = and_parts (list_all (is_word_in f.size) (fixed_offsets f)) (are_distinct (fixed_offsets f)) words in
    record { distinct = distinct (fixed_offsets f) parts.1; inside = inside f.size (fixed_offsets f) parts.0 }

-- ---- parts of a list of offsets

pub fresh_front : (o : ℕ) (xs ys : List ℕ) → IsFresh o (xs ++ ys) → IsFresh o xs × IsFresh o ys
fresh_front o [] ys is = (tt, is)
fresh_front o (x ∷ xs) ys is = let rest = fresh_front o xs ys is.1 in ((is.0, rest.0), rest.1)

pub distinct_rest : (xs ys : List ℕ) → AreDistinct (xs ++ ys) → AreDistinct ys
distinct_rest [] ys is = is
distinct_rest (x ∷ xs) ys is = distinct_rest xs ys is.1

pub inside_rest : (size : ℕ) (xs ys : List ℕ) → AreInside size (xs ++ ys) → AreInside size ys
inside_rest size [] ys is = is
inside_rest size (x ∷ xs) ys is = inside_rest size xs ys is.1

pub saved_among : (o other r : ℕ) (saved : List (ℕ × ℕ)) → IsFresh o (saved_offsets saved) → saved_in saved r ≡ Some other → o ≢ other
saved_among o other r ((register, offset) ∷ rest) is saves = grind (arith, nat_tests, saved_among o other r rest is.1, is.0)
saved_among o other r [] is saves = grind arith

pub pair_among : (o k p : ℕ) (pairs : List ℕ) → IsFresh o (pair_offsets pairs) → slice_get pairs k ≡ Some p → (o ≢ p) × (o ≢ p + 8)
pair_among o zero p (q ∷ rest) is gives = grind (arith, is.0, is.1.0)
pair_among o (suc k) p (q ∷ rest) is gives = pair_among o k p rest is.1.1 gives
pair_among o k p [] is gives = grind arith

pub saved_inside : (size o r : ℕ) (saved : List (ℕ × ℕ)) (ys : List ℕ) → AreInside size (saved_offsets saved ++ ys) → saved_in saved r ≡ Some o → o + 8 ≤ size
saved_inside size o r ((register, offset) ∷ rest) ys is saves = grind (arith, nat_tests, saved_inside size o r rest ys is.1, is.0)
saved_inside size o r [] ys is saves = grind arith

pub pair_inside : (size k p : ℕ) (pairs : List ℕ) → AreInside size (pair_offsets pairs) → slice_get pairs k ≡ Some p → p + 16 ≤ size
pair_inside size zero p (q ∷ rest) is gives = grind (arith, is.1.0)
pair_inside size (suc k) p (q ∷ rest) is gives = pair_inside size k p rest is.1.1 gives
pair_inside size k p [] is gives = grind arith

-- a saved register's word is none of the pairs', nor another register's
pub saved_fresh : (r o : ℕ) (saved : List (ℕ × ℕ)) (ys : List ℕ) → AreDistinct (saved_offsets saved ++ ys) → saved_in saved r ≡ Some o → IsFresh o ys
saved_fresh r o ((register, offset) ∷ rest) ys is saves =
    grind (arith, nat_tests, fresh_front offset (saved_offsets rest) ys is.0, saved_fresh r o rest ys is.1)
saved_fresh r o [] ys is saves = grind arith

pub saved_apart : (r o other place : ℕ) (saved : List (ℕ × ℕ)) (ys : List ℕ) → AreDistinct (saved_offsets saved ++ ys) → saved_in saved r ≡ Some o →
    saved_in saved other ≡ Some place → r ≢ other → o ≢ place
saved_apart r o other place ((register, offset) ∷ rest) ys is saves saves_other apart =
    let front = (fresh_front offset (saved_offsets rest) ys is.0).0 in
    grind (arith, nat_tests, saved_apart r o other place rest ys is.1, saved_among offset o r rest front, saved_among offset place other rest front)
saved_apart r o other place [] ys is saves saves_other apart = grind arith
