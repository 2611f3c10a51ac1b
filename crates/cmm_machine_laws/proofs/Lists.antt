-- What may be missing or wrong, elements of lists, and lists in step.
use Rattle.std.proofs.Common.{Err, Ok, Result, ◌≡◌, ℕ, suc, ◌<◌, Option, Some, None, List, [], ◌∷◌, ◌++◌, map, take, drop, length, slice_get, slice_index_or, All, arith}
use Rattle.std.specs.List.{AllZip}
use Rattle.std.proofs.lemmas.List.{get_or_past}
use Rattle.std.proofs.lemmas.Option.{slice_get_cases}

-- ---- options and answers

-- by cases on what may be there, and on an answer
pub at_option : {A B : Type 0} (o : Option A) (f : A → B) (b : B) (P : B → Type 0) → ((a : A) → o ≡ Some a → P (f a)) → P b →
    P (elim o [ Some a ↦ f a | None ↦ b ])
at_option o f b P some none = grind arith

pub at_result : {A B E : Type 0} (t : Result A E) (f : A → B) (g : E → B) (P : B → Type 0) → ((a : A) → t ≡ Ok a → P (f a)) → ((e : E) → P (g e)) →
    P (elim t [ Ok a ↦ f a | Err e ↦ g e ])
at_result t f g P ok err = grind arith

-- ---- elements

-- an index below the length has an element
pub some_get : {A : Type 0} (xs : List A) (n : ℕ) → n < length xs → (x : A) × (slice_get xs n ≡ Some x)
some_get xs n less = grind (arith, slice_get_cases xs n)

-- what a list has at any place, or else the default
pub any_place : {A : Type 0} (P : A → Type 0) (xs : List A) (n : ℕ) (d : A) → All P xs → P d → P (slice_index_or xs n d)
any_place P xs n d all default = grind (arith, slice_get_cases xs n, get_or_past)

-- ---- lists in step

-- zeros in step with a list
pub zip_zeros : {A : Type 0} (R : A → ℕ → Type 0) (xs : List A) → ((x : A) → R x 0) → AllZip R xs (map (λ x. 0) xs)
zip_zeros R [] zeros = tt
zip_zeros R (x ∷ xs) zeros = (zeros x, zip_zeros R xs zeros)

-- values in step with what the first of a list give, filled up by zeros
pub zip_filled : {A B : Type 0} (R : B → ℕ → Type 0) (f : A → B) (n : ℕ) (xs : List A) (ys : List ℕ) → ((y : B) → R y 0) →
    AllZip R (map f (take n xs)) ys → AllZip (λ x y. R (f x) y) xs (ys ++ map (λ x. 0) (drop (length ys) xs))
zip_filled R f (suc n) (x ∷ xs) (y ∷ ys) zeros old = grind (arith, zip_filled R f n xs ys zeros)
zip_filled R f n xs ys zeros old = grind (arith, zip_zeros (λ x. R (f x)) xs (λ x. zeros (f x)))
