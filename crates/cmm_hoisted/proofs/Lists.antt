-- Elements of lists that are joined, that are written at a place, or that stand side by side; what holds at each place holds of all.
use Rattle.std.proofs.Common.{◌≡◌, ℕ, zero, suc, ◌+◌, ◌<◌, ◌≢◌, refl, ◌∙◌, ap, subst, arith, List, [], ◌∷◌, ◌++◌, length}
use Rattle.std.proofs.lemmas.Bool.{and_from, and_parts}
use Rattle.std.proofs.lemmas.List.Elements.{All-cons, All-contains, All-nil}
use Rattle.std.proofs.lemmas.List.Folds.{list_all-append}
use Rattle.std.proofs.lemmas.List.Sums.{AllPass-from_list_all}
use Rattle.std.specs.Prelude.{flat_map, slice_get, slice_set, Bool, Contains, IsTrue, Option, Some, None}
use Rattle.std.specs.List.{All, AllZip, list_all}
use Rattle.cmm_program.proofs.Shared.{list_all_get}

module _ {A : Type 0} where
  pub get-append_left : (xs ys : List A) (k : ℕ) → k < length xs → slice_get (xs ++ ys) k ≡ slice_get xs k
  get-append_left [] ys k less = absurd (omega arith)
  get-append_left (x ∷ xs) ys zero less = refl
  get-append_left (x ∷ xs) ys (suc k) less = get-append_left xs ys k (omega arith)

  pub get-append_right : (xs ys : List A) (k : ℕ) → slice_get (xs ++ ys) (length xs + k) ≡ slice_get ys k
  get-append_right [] ys k = let same : 0 + k ≡ k = omega arith in ap (slice_get ys) same
  get-append_right (x ∷ xs) ys k =
      let same : length (x ∷ xs) + k ≡ suc (length xs + k) = omega arith in ap (slice_get (x ∷ xs ++ ys)) same ∙ get-append_right xs ys k

  pub get-set_same : (xs : List A) (n : ℕ) (y : A) → n < length xs → slice_get (slice_set xs n y) n ≡ Some y
  get-set_same [] n y less = absurd (omega arith)
  get-set_same (x ∷ xs) zero y less = refl
  get-set_same (x ∷ xs) (suc n) y less = get-set_same xs n y (omega arith)

  pub get-set_other : (xs : List A) (n k : ℕ) (y : A) → k ≢ n → slice_get (slice_set xs n y) k ≡ slice_get xs k
  get-set_other [] n k y other = refl
  get-set_other (x ∷ xs) zero zero y other = absurd (other refl)
  get-set_other (x ∷ xs) zero (suc k) y other = refl
  get-set_other (x ∷ xs) (suc n) zero y other = refl
  get-set_other (x ∷ xs) (suc n) (suc k) y other = get-set_other xs n k y (λ same. other (ap suc same))

  pub get_within : (xs : List A) (k : ℕ) → k < length xs → (x : A) × (slice_get xs k ≡ Some x)
  get_within [] k less = absurd (omega arith)
  get_within (x ∷ xs) zero less = (x, refl)
  get_within (x ∷ xs) (suc k) less = get_within xs k (omega arith)

  pub all_from : (P : A → Type 0) (xs : List A) → ((k : ℕ) (x : A) → slice_get xs k ≡ Some x → P x) → All P xs
  all_from P [] each = All-nil P
  all_from P (x ∷ xs) each = All-cons P x xs (each 0 x refl) (all_from P xs (λ k. each (suc k)))

  pub list_all_from : (test : A → Bool) (xs : List A) → ((k : ℕ) (x : A) → slice_get xs k ≡ Some x → IsTrue (test x)) → IsTrue (list_all test xs)
  list_all_from test [] each = refl
  list_all_from test (x ∷ xs) each = and_from (test x) (list_all test xs) (each 0 x refl) (list_all_from test xs (λ k. each (suc k)))

  pub list_all_more : (test other : A → Bool) → ((x : A) → IsTrue (test x) → IsTrue (other x)) → (xs : List A) →
      IsTrue (list_all test xs) → IsTrue (list_all other xs)
  list_all_more test other more xs all = list_all_from other xs (λ k x is. more x (list_all_get test xs k x all is))

  pub list_all_contains : (test : A → Bool) (xs : List A) (x : A) → IsTrue (list_all test xs) → Contains xs x → IsTrue (test x)
  list_all_contains test xs x all = All-contains (λ y. IsTrue (test y)) xs x (AllPass-from_list_all test xs all)

module _ {A B : Type 0} where
  pub list_all-flat_map : (test : B → Bool) (f : A → List B) (xs : List A) → IsTrue (list_all (λ x. list_all test (f x)) xs) →
      IsTrue (list_all test (flat_map f xs))
  list_all-flat_map test f [] all = refl
  list_all-flat_map test f (x ∷ xs) all =
      let parts = and_parts (list_all test (f x)) (list_all (λ x. list_all test (f x)) xs) all in
      list_all-append test (f x) (flat_map f xs)
      ∙ and_from (list_all test (f x)) (list_all test (flat_map f xs)) parts.0 (list_all-flat_map test f xs parts.1)

  zip_more : (R S : A → B → Type 0) → ((a : A) (b : B) → R a b → S a b) → (xs : List A) (ys : List B) → AllZip R xs ys → AllZip S xs ys
  zip_more R S more [] [] all = tt
  zip_more R S more [] (b ∷ ys) all = absurd all
  zip_more R S more (a ∷ xs) [] all = absurd all
  zip_more R S more (a ∷ xs) (b ∷ ys) all = (more a b all.0, zip_more R S more xs ys all.1)

  -- lists that stand side by side still do where an element is written over one beside it
  pub zip_set : (R S : A → B → Type 0) → ((a : A) (b : B) → R a b → S a b) → (xs : List A) (ys : List B) → AllZip R xs ys → (n : ℕ) (x : A) (y : B) →
      slice_get xs n ≡ Some x → S x y → AllZip S xs (slice_set ys n y)
  zip_set R S more [] [] all n x y is stands = tt
  zip_set R S more [] (b ∷ ys) all n x y is stands = absurd all
  zip_set R S more (a ∷ xs) [] all n x y is stands = absurd all
  zip_set R S more (a ∷ xs) (b ∷ ys) all zero x y is stands = let same : x ≡ a = cc in (subst (λ (z : A). S z y) same stands, zip_more R S more xs ys all.1)
  zip_set R S more (a ∷ xs) (b ∷ ys) all (suc n) x y is stands = (more a b all.0, zip_set R S more xs ys all.1 n x y is stands)

  -- there is none in either, or the one stands beside the other
  abbrev pub AreBeside : (A → B → Type 0) → Option A → Option B → Type 0
  AreBeside R None None = Unit {0}
  AreBeside R (Some a) (Some b) = R a b
  AreBeside R _ _ = ⊥

  pub beside_at : (R : A → B → Type 0) (xs : List A) (ys : List B) → AllZip R xs ys → (n : ℕ) → AreBeside R (slice_get xs n) (slice_get ys n)
  beside_at R [] [] all n = tt
  beside_at R [] (y ∷ ys) all n = absurd all
  beside_at R (x ∷ xs) [] all n = absurd all
  beside_at R (x ∷ xs) (y ∷ ys) all zero = all.0
  beside_at R (x ∷ xs) (y ∷ ys) all (suc n) = beside_at R xs ys all.1 n

  pub record IsBeside (R : A → B → Type 0) (ys : List B) (n : ℕ) (x : A) : Type 0 where
    pub other : B
    pub is_there : slice_get ys n ≡ Some other
    pub stands : R x other

  pub beside : (R : A → B → Type 0) (xs : List A) (ys : List B) → AllZip R xs ys → (n : ℕ) (x : A) → slice_get xs n ≡ Some x → IsBeside R ys n x
  beside R xs ys all n x is = by (slice_get xs n) (slice_get ys n) refl is (beside_at R xs ys all n)
    where
      by : (a : Option A) (b : Option B) → slice_get ys n ≡ b → a ≡ Some x → AreBeside R a b → IsBeside R ys n x
      by None b there same may = absurd (cc)
      by (Some a) None there same may = absurd may
      by (Some a) (Some b) there same may = let equal : a ≡ x = cc in record { other = b; is_there = there; stands = subst (λ (z : A). R z b) equal may }

  pub record IsBefore (R : A → B → Type 0) (xs : List A) (n : ℕ) (y : B) : Type 0 where
    pub other : A
    pub is_there : slice_get xs n ≡ Some other
    pub stands : R other y

  pub before : (R : A → B → Type 0) (xs : List A) (ys : List B) → AllZip R xs ys → (n : ℕ) (y : B) → slice_get ys n ≡ Some y → IsBefore R xs n y
  before R xs ys all n y is = by (slice_get xs n) (slice_get ys n) refl is (beside_at R xs ys all n)
    where
      by : (a : Option A) (b : Option B) → slice_get xs n ≡ a → b ≡ Some y → AreBeside R a b → IsBefore R xs n y
      by a None there same may = absurd (cc)
      by None (Some b) there same may = absurd may
      by (Some a) (Some b) there same may = let equal : b ≡ y = cc in record { other = a; is_there = there; stands = subst (λ (z : B). R a z) equal may }
