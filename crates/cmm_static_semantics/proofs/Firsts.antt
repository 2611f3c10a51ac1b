-- The first of faults, one list after the other, and loops that note those of each item.
use Rattle.std.proofs.Common.{◌≡◌, ℕ, suc, ◌+◌, ◌<◌, length, map, take, drop, get_or, refl, ap, sym, ◌∙◌, Bool, List, [], ◌∷◌, ◌++◌, Option, Some, append-nil, append_assoc, arith}
use Rattle.std.specs.Prelude.{flat_map, Result, Ok, Err, OnOk, IfErr}
use Rattle.std.proofs.Math.Seq.{take-suc, drop-cons}
use Rattle.std.proofs.lemmas.List.{map-append}
use Rattle.std.proofs.lemmas.Grind.{flat_map-append}
use Rattle.cmm_static_semantics.specs.declared.spot.Spot.{Spot}
use Rattle.cmm_static_semantics.specs.Spots.{first_by, sooner_by, comes_before, first_of}

pub first_by_append : {A : Type 0} (before : A → A → Bool) (best : Option A) (xs ys : List A) →
    first_by before best (xs ++ ys) ≡ first_by before (first_by before best xs) ys
first_by_append before best [] ys = refl
first_by_append before best (x ∷ xs) ys = first_by_append before (sooner_by before best (Some x)) xs ys

pub first_of_append : (best : Option Spot) (xs ys : List Spot) → first_of best (xs ++ ys) ≡ first_of (first_of best xs) ys
first_of_append best xs ys = first_by_append comes_before best xs ys

-- one more item of a list
pub taken : {A : Type 0} (xs : List A) (i : ℕ) (x : A) → i < length xs → x ≡ get_or xs i x → take (i + 1) xs ≡ take i xs ++ x ∷ []
taken xs i x within is = let e : i + 1 ≡ suc i = omega arith in rw (e, take-suc xs i x within, sym is) refl

pub mapped_next : {A B : Type 0} (h : A → B) (xs : List A) (i : ℕ) (x : A) → i < length xs → x ≡ get_or xs i x →
    map h (take (i + 1) xs) ≡ map h (take i xs) ++ h x ∷ []
mapped_next h xs i x within is = rw (taken xs i x within is) (map-append h (take i xs) (x ∷ []))

pub flat_next : {A B C : Type 0} (h : A → B) (f : B → List C) (xs : List A) (i : ℕ) (x : A) → i < length xs → x ≡ get_or xs i x →
    flat_map f (map h (take (i + 1) xs)) ≡ flat_map f (map h (take i xs)) ++ f (h x)
flat_next h f xs i x within is =
    ap (flat_map f) (mapped_next h xs i x within is) ∙ flat_map-append f (map h (take i xs)) (h x ∷ []) ∙ ap (λ t. flat_map f (map h (take i xs)) ++ t) (append-nil (f (h x)))

pub flat_plain : {A C : Type 0} (f : A → List C) (xs : List A) (i : ℕ) (x : A) → i < length xs → x ≡ get_or xs i x →
    flat_map f (take (i + 1) xs) ≡ flat_map f (take i xs) ++ f x
flat_plain f xs i x within is =
    ap (flat_map f) (taken xs i x within is) ∙ flat_map-append f (take i xs) (x ∷ []) ∙ ap (λ t. flat_map f (take i xs) ++ t) (append-nil (f x))

-- a turn of a loop that notes the faults of each item
pub noted_next : {A : Type 0} (f : A → List Spot) (best : Option Spot) (xs : List A) (i : ℕ) (x : A) → i < length xs → x ≡ get_or xs i x →
    first_of (first_of best (flat_map f (take i xs))) (f x) ≡ first_of best (flat_map f (take (i + 1) xs))
noted_next f best xs i x within is = sym (first_of_append best (flat_map f (take i xs)) (f x)) ∙ ap (first_of best) (sym (flat_plain f xs i x within is))

-- the next item may be a number, or made of some
pub noted_at : {A : Type 0} (f : A → List Spot) (best : Option Spot) (xs : List A) (i : ℕ) (d : A) → i < length xs →
    first_of (first_of best (flat_map f (take i xs))) (f (get_or xs i d)) ≡ first_of best (flat_map f (take (i + 1) xs))
noted_at f best xs i d within =
    let e : i + 1 ≡ suc i = omega arith in
    let one : take (i + 1) xs ≡ take i xs ++ get_or xs i d ∷ [] = rw (e, take-suc xs i d within) refl in
    sym (first_of_append best (flat_map f (take i xs)) (f (get_or xs i d)))
    ∙ ap (first_of best) (sym (ap (flat_map f) one ∙ flat_map-append f (take i xs) (get_or xs i d ∷ []) ∙ ap (λ t. flat_map f (take i xs) ++ t) (append-nil (f (get_or xs i d)))))

-- the same where the items are seen as others
pub noted_next_of : {A B : Type 0} (h : A → B) (f : B → List Spot) (best : Option Spot) (xs : List A) (i : ℕ) (x : A) → i < length xs → x ≡ get_or xs i x →
    first_of (first_of best (flat_map f (map h (take i xs)))) (f (h x)) ≡ first_of best (flat_map f (map h (take (i + 1) xs)))
noted_next_of h f best xs i x within is =
    sym (first_of_append best (flat_map f (map h (take i xs))) (f (h x))) ∙ ap (first_of best) (sym (flat_next h f xs i x within is))

-- a turn of a loop that appends
pub grown : {B : Type 0} {new whole : List B} (old base so_far piece : List B) → new ≡ old ++ piece → old ≡ base ++ so_far → whole ≡ so_far ++ piece → new ≡ base ++ whole
grown old base so_far piece e f g = e ∙ ap (λ q. q ++ piece) f ∙ append_assoc base so_far piece ∙ ap (λ q. base ++ q) (sym g)

-- what holds where all goes well, from what does
pub on_ok : {A E : Type 0} {P Q : Type 0} (r : Result A E) → (P → Q) → OnOk r P → OnOk r Q
on_ok (Ok a) f p = f p
on_ok (Err e) f p = p

-- the rest of a list, from one item on
pub rest_next : {A B : Type 0} (h : A → B) (xs : List A) (i : ℕ) (x : A) → i < length xs → x ≡ get_or xs i x → map h (drop i xs) ≡ h x ∷ map h (drop (i + 1) xs)
rest_next h xs i x within is = let e : i + 1 ≡ suc i = omega arith in ap (map h) (drop-cons xs i x within) ∙ rw (e, sym is) refl

pub on_err : {A E : Type 0} {P Q : E → Type 0} (r : Result A E) → ((e : E) → P e → Q e) → IfErr r P → IfErr r Q
on_err (Ok a) f p = p
on_err (Err e) f p = f e p
