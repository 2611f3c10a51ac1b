-- The first fault of lists of items, one list after the other.
use Rattle.std.proofs.Common.{◌≡◌, ℕ, ◌+◌, ◌<◌, length, take, get_or, refl, ap, sym, ◌∙◌, List, [], ◌++◌, Option}
use Rattle.std.specs.Prelude.{flat_map}
use Rattle.std.proofs.lemmas.Grind.{flat_map-append}
use Rattle.cmm_static_semantics.specs.declared.spot.Spot.{Spot}
use Rattle.cmm_static_semantics.specs.Spots.{first_of}
use Rattle.cmm_static_semantics.proofs.Shared.{first_of_append, flat_plain}
use Rattle.cmm_typing.specs.inside.Noted.{noted_in}

pub noted_is : {A : Type 0} (f : A → List Spot) (best : Option Spot) (xs : List A) → noted_in f best xs ≡ first_of best (flat_map f xs)
unfolding noted_in
noted_is f best xs = refl

pub noted_none : {A : Type 0} (f : A → List Spot) (best : Option Spot) → noted_in f best [] ≡ best
unfolding noted_in
noted_none f best = refl

pub noted_append : {A : Type 0} (f : A → List Spot) (best : Option Spot) (xs ys : List A) → noted_in f best (xs ++ ys) ≡ noted_in f (noted_in f best xs) ys
unfolding noted_in
noted_append f best xs ys = ap (first_of best) (flat_map-append f xs ys) ∙ first_of_append best (flat_map f xs) (flat_map f ys)

-- a turn of a loop that notes what stands in each item
pub noted_turn : {A B : Type 0} (h : A → List B) (f : B → List Spot) (best : Option Spot) (xs : List A) (i : ℕ) (x : A) → i < length xs → x ≡ get_or xs i x →
    noted_in f (noted_in f best (flat_map h (take i xs))) (h x) ≡ noted_in f best (flat_map h (take (i + 1) xs))
noted_turn h f best xs i x within is = sym (noted_append f best (flat_map h (take i xs)) (h x)) ∙ ap (noted_in f best) (sym (flat_plain h xs i x within is))
