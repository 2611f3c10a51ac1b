-- Elements of lists that are made of others, one by one.
use Rattle.std.proofs.Common.{◌≡◌, ℕ, zero, suc, ◌+◌, ◌<◌, All, Contains, Some, List, [], ◌∷◌, ◌++◌, length, flat_map, map, slice_get, take, refl, sym, ap, ◌∙◌, subst, arith}
use Rattle.std.proofs.lemmas.List.Elements.{All-append, All-cons, All-nil, Contains-append_left, Contains-append_right}
use Rattle.std.proofs.lemmas.Option.{slice_get-map, same_Some, slice_get_within, get_or_from_slice_get}
use Rattle.std.proofs.lemmas.List.{append_assoc}
use Rattle.cmm_tables.proofs.Shared.{enumerated_more}
use Rattle.cmm_link.proofs.Exports.{flat_pushed, map_pushed}
use Rattle.std.specs.List.{AllZip, enumerate_from, zip}
use Rattle.std.specs.Option.{option_map}
use Rattle.std.specs.Prelude.{slice_index}

-- ---- what stands at an index

pub zip_get : {A B : Type 0} (xs : List A) (ys : List B) (i : ℕ) (x : A) (y : B) → slice_get xs i ≡ Some x → slice_get ys i ≡ Some y → slice_get (zip xs ys) i ≡ Some (x, y)
zip_get [] ys i x y one two = absurd (cc)
zip_get (a ∷ xs) [] i x y one two = absurd (cc)
zip_get (a ∷ xs) (b ∷ ys) zero x y one two = let first = same_Some a x one in let second = same_Some b y two in cc
zip_get (a ∷ xs) (b ∷ ys) (suc i) x y one two = zip_get xs ys i x y one two

pub zipped_get : {A B : Type 0} (xs : List A) (ys : List B) (i : ℕ) (of : A × B) → slice_get (zip xs ys) i ≡ Some of → (slice_get xs i ≡ Some of.0) × (slice_get ys i ≡ Some of.1)
zipped_get [] ys i of is = absurd (cc)
zipped_get (a ∷ xs) [] i of is = absurd (cc)
zipped_get {A = A} {B = B} (a ∷ xs) (b ∷ ys) zero of is =
    let same = same_Some (a, b) of is in (ap (λ (of : A × B). Some of.0) same, ap (λ (of : A × B). Some of.1) same)
zipped_get (a ∷ xs) (b ∷ ys) (suc i) of is = zipped_get xs ys i of is

pub enumerate_get : {A : Type 0} (n : ℕ) (xs : List A) (i : ℕ) (x : A) → slice_get xs i ≡ Some x → slice_get (enumerate_from n xs) i ≡ Some (n + i, x)
enumerate_get n [] i x is = absurd (cc)
enumerate_get {A = A} n (a ∷ xs) zero x is =
    let none : n ≡ n + 0 = omega arith in
    ap (λ (a : A). Some (n, a)) (same_Some a x is) ∙ ap (λ (k : ℕ). Some (k, x)) none
enumerate_get {A = A} n (a ∷ xs) (suc i) x is =
    let next : n + 1 + i ≡ n + suc i = omega arith in enumerate_get (n + 1) xs i x is ∙ ap (λ (k : ℕ). Some (k, x)) next

pub enumerated_get : {A : Type 0} (n : ℕ) (xs : List A) (i : ℕ) (of : ℕ × A) → slice_get (enumerate_from n xs) i ≡ Some of → (of.0 ≡ n + i) × (slice_get xs i ≡ Some of.1)
enumerated_get n [] i of is = absurd (cc)
enumerated_get {A = A} n (a ∷ xs) zero of is =
    let same = same_Some (n, a) of is in let none : n ≡ n + 0 = omega arith in (sym (ap (λ (of : ℕ × A). of.0) same) ∙ none, ap (λ (of : ℕ × A). Some of.1) same)
enumerated_get n (a ∷ xs) (suc i) of is =
    let rest = enumerated_get (n + 1) xs i of is in let next : n + 1 + i ≡ n + suc i = omega arith in (rest.0 ∙ next, rest.1)

pub map_get : {A B : Type 0} (f : A → B) (xs : List A) (i : ℕ) (x : A) → slice_get xs i ≡ Some x → slice_get (map f xs) i ≡ Some (f x)
map_get f xs i x is = slice_get-map f xs i ∙ ap (option_map f) is

pub mapped_get : {A B : Type 0} (f : A → B) (xs : List A) (i : ℕ) (y : B) → slice_get (map f xs) i ≡ Some y → (x : A) × (slice_get xs i ≡ Some x) × (f x ≡ y)
mapped_get f [] i y is = absurd (cc)
mapped_get f (a ∷ xs) zero y is = (a, refl, same_Some (f a) y is)
mapped_get f (a ∷ xs) (suc i) y is = mapped_get f xs i y is

-- two lists of which each element has one at its place
pub both_at : {A B : Type 0} (R : A → B → Type 0) (xs : List A) (ys : List B) (i : ℕ) (x : A) (y : B) → AllZip R xs ys → slice_get xs i ≡ Some x → slice_get ys i ≡ Some y → R x y
both_at R [] ys i x y all one two = absurd (cc)
both_at R (a ∷ xs) [] i x y all one two = elim all [ ]
both_at {A = A} {B = B} R (a ∷ xs) (b ∷ ys) zero x y all one two =
    subst (λ (a : A). R a y) (same_Some a x one) (subst (λ (b : B). R a b) (same_Some b y two) all.0)
both_at R (a ∷ xs) (b ∷ ys) (suc i) x y all one two = both_at R xs ys i x y all.1 one two

pub there_at : {A B : Type 0} (R : A → B → Type 0) (xs : List A) (ys : List B) (i : ℕ) (x : A) → AllZip R xs ys → slice_get xs i ≡ Some x → (y : B) × (slice_get ys i ≡ Some y) × R x y
there_at R [] ys i x all is = absurd (cc)
there_at R (a ∷ xs) [] i x all is = elim all [ ]
there_at {A = A} R (a ∷ xs) (b ∷ ys) zero x all is = (b, refl, subst (λ (a : A). R a b) (same_Some a x is) all.0)
there_at R (a ∷ xs) (b ∷ ys) (suc i) x all is = there_at R xs ys i x all.1 is

pub get_there : {A : Type 0} (xs : List A) (i : ℕ) → i < length xs → (x : A) × (slice_get xs i ≡ Some x)
get_there [] i less = absurd (omega arith)
get_there (x ∷ xs) zero less = (x, refl)
get_there (x ∷ xs) (suc i) less = get_there xs i (omega (arith, less))

pub index_get : (ns : List ℕ) (i n : ℕ) → slice_get ns i ≡ Some n → slice_index ns i ≡ n
index_get [] i n is = absurd (cc)
index_get (m ∷ ns) zero n is = same_Some m n is
index_get (m ∷ ns) (suc i) n is = index_get ns i n is

-- ---- all elements

pub all_from_get : {A : Type 0} (P : A → Type 0) (xs : List A) → ((i : ℕ) (x : A) → slice_get xs i ≡ Some x → P x) → All P xs
all_from_get P [] each = All-nil P
all_from_get P (x ∷ xs) each = All-cons P x xs (each 0 x refl) (all_from_get P xs (λ i y is. each (suc i) y is))

pub all_flat : {A B : Type 0} (P : B → Type 0) (f : A → List B) (xs : List A) → ((i : ℕ) (x : A) → slice_get xs i ≡ Some x → All P (f x)) → All P (flat_map f xs)
all_flat P f [] each = All-nil P
all_flat P f (x ∷ xs) each = All-append P (f x) (flat_map f xs) (each 0 x refl) (all_flat P f xs (λ i y is. each (suc i) y is))

pub contains_at : {A : Type 0} (xs : List A) (i : ℕ) (x : A) → slice_get xs i ≡ Some x → Contains xs x
contains_at xs i x is = (i, slice_get_within xs i x is, get_or_from_slice_get xs i x x is)

pub at_contained : {A : Type 0} (xs : List A) (x : A) → Contains xs x → (i : ℕ) × (slice_get xs i ≡ Some x)
at_contained {A = A} xs x among =
    let there = get_there xs among.0 among.1 in
    (among.0, there.1 ∙ ap (λ (y : A). Some y) (sym (get_or_from_slice_get xs among.0 there.0 x there.1) ∙ among.2))

pub flat_contains : {A B : Type 0} (f : A → List B) (xs : List A) (i : ℕ) (x : A) (y : B) → slice_get xs i ≡ Some x → Contains (f x) y → Contains (flat_map f xs) y
flat_contains f [] i x y is among = absurd (cc)
flat_contains {A = A} f (a ∷ xs) zero x y is among =
    Contains-append_left (f a) (flat_map f xs) y (subst (λ (x : A). Contains (f x) y) (sym (same_Some a x is)) among)
flat_contains f (a ∷ xs) (suc i) x y is among = Contains-append_right (f a) (flat_map f xs) y (flat_contains f xs i x y is among)

-- ---- lists that are made one by one

pub flat_more : {A B : Type 0} (f : ℕ × A → List B) (i : ℕ) (xs : List A) (x : A) → slice_get xs i ≡ Some x →
    flat_map f (enumerate_from 0 (take i xs)) ++ f (i, x) ≡ flat_map f (enumerate_from 0 (take (i + 1) xs))
flat_more {A = A} {B = B} f i xs x is =
    let next : suc i ≡ i + 1 = omega arith in
    let here : i ≡ 0 + i = omega arith in
    ap (λ (k : ℕ). flat_map f (enumerate_from 0 (take i xs)) ++ f (k, x)) here
    ∙ sym (flat_pushed f (enumerate_from 0 (take i xs)) (0 + i, x))
    ∙ ap (λ (of : List (ℕ × A)). flat_map f of) (sym (enumerated_more 0 i xs x is))
    ∙ ap (λ (n : ℕ). flat_map f (enumerate_from 0 (take n xs))) next

pub pushed_behind : {A B : Type 0} (front : List B) (f : A → B) (xs : List A) (x : A) (rows : List B) (row : B) → rows ≡ front ++ map f xs → row ≡ f x →
    rows ++ row ∷ [] ≡ front ++ map f (xs ++ x ∷ [])
pushed_behind {A = A} {B = B} front f xs x rows row so_far is =
    ap (λ (rows : List B). rows ++ row ∷ []) so_far
    ∙ append_assoc front (map f xs) (row ∷ [])
    ∙ ap (λ (rows : List B). front ++ rows) (map_pushed f xs x (map f xs) row refl is)
