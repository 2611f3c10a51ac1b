-- The first of names that are too long, one list after the other.
use Rattle.std.proofs.Common.{◌≡◌, ℕ, ◌+◌, ◌<◌, length, map, take, get_or, refl, ap, sym, ◌∙◌, List, [], ◌∷◌, ◌++◌, Option}
use Rattle.std.specs.Prelude.{flat_map}
use Rattle.std.proofs.lemmas.Grind.{flat_map-append}
use Rattle.cmm_ast.specs.declared.token.Ident.{Ident}
use Rattle.cmm_static_semantics.specs.declared.spot.Spot.{Spot}
use Rattle.cmm_static_semantics.specs.Spots.{first_of}
use Rattle.cmm_static_semantics.specs.LongNames.{long_spots}
use Rattle.cmm_symbols.specs.Noted.{long_of}
use Rattle.cmm_static_semantics.proofs.Shared.{first_of_append, flat_plain, flat_next, mapped_next, taken}

pub long_is : (best : Option Spot) (names : List Ident) → long_of best names ≡ first_of best (flat_map long_spots names)
unfolding long_of
long_is best names = refl

pub long_none : (best : Option Spot) → long_of best [] ≡ best
unfolding long_of
long_none best = refl

pub long_append : (best : Option Spot) (a b : List Ident) → long_of best (a ++ b) ≡ long_of (long_of best a) b
unfolding long_of
long_append best a b = ap (first_of best) (flat_map-append long_spots a b) ∙ first_of_append best (flat_map long_spots a) (flat_map long_spots b)

pub long_more : (best : Option Spot) (i : Ident) (b : List Ident) → long_of best (i ∷ b) ≡ long_of (long_of best (i ∷ [])) b
long_more best i b = long_append best (i ∷ []) b

-- a turn of a loop
pub long_next : {A : Type 0} (f : A → List Ident) (best : Option Spot) (xs : List A) (i : ℕ) (x : A) → i < length xs → x ≡ get_or xs i x →
    long_of (long_of best (flat_map f (take i xs))) (f x) ≡ long_of best (flat_map f (take (i + 1) xs))
long_next f best xs i x within is = sym (long_append best (flat_map f (take i xs)) (f x)) ∙ ap (long_of best) (sym (flat_plain f xs i x within is))

pub long_next_of : {A B : Type 0} (h : A → B) (f : B → List Ident) (best : Option Spot) (xs : List A) (i : ℕ) (x : A) → i < length xs → x ≡ get_or xs i x →
    long_of (long_of best (flat_map f (map h (take i xs)))) (f (h x)) ≡ long_of best (flat_map f (map h (take (i + 1) xs)))
long_next_of h f best xs i x within is =
    sym (long_append best (flat_map f (map h (take i xs))) (f (h x))) ∙ ap (long_of best) (sym (flat_next h f xs i x within is))

pub long_mapped : {A : Type 0} (h : A → Ident) (best : Option Spot) (xs : List A) (i : ℕ) (x : A) → i < length xs → x ≡ get_or xs i x →
    long_of (long_of best (map h (take i xs))) (h x ∷ []) ≡ long_of best (map h (take (i + 1) xs))
long_mapped h best xs i x within is = sym (long_append best (map h (take i xs)) (h x ∷ [])) ∙ ap (long_of best) (sym (mapped_next h xs i x within is))

pub long_taken : (best : Option Spot) (xs : List Ident) (i : ℕ) (x : Ident) → i < length xs → x ≡ get_or xs i x →
    long_of (long_of best (take i xs)) (x ∷ []) ≡ long_of best (take (i + 1) xs)
long_taken best xs i x within is = sym (long_append best (take i xs) (x ∷ [])) ∙ ap (long_of best) (sym (taken xs i x within is))
