-- Membership in a list, case by case, and as a test of numbers.
use Rattle.std.proofs.Math.Bool.{or_assoc}
use Rattle.std.proofs.Common.{◌≡◌, ◌⊎◌, inl, inr, ℕ, zero, suc, ◌||◌, ◌==◌, Bool, true, false, Contains, List, [], ◌∷◌, ◌++◌, flat_map, map, refl, ap, sym, ◌∙◌, subst, arith}
use Rattle.std.proofs.lemmas.Bool.{and_parts}
use Rattle.std.specs.List.{list_all}
use Rattle.cmm_program.specs.Liveness.{is_among}

-- an element is the first, or among the others
abbrev pub Among : {X : Type 0} → List X → X → Type 0
Among [] x = ⊥
Among (y ∷ ys) x = (y ≡ x) ⊎ Among ys x

pub among_of : {X : Type 0} (xs : List X) (x : X) → Contains xs x → Among xs x
among_of [] x c = absurd (omega (arith, c.1))
among_of (y ∷ ys) x (zero, less, is) = inl is
among_of (y ∷ ys) x (suc k, less, is) = inr (among_of ys x (k, omega arith, is))

pub contains_of : {X : Type 0} (xs : List X) (x : X) → Among xs x → Contains xs x
contains_of [] x among = absurd among
contains_of (y ∷ ys) x (inl is) = (zero, omega arith, is)
contains_of (y ∷ ys) x (inr later) = let c = contains_of ys x later in (suc c.0, omega (arith, c.1), c.2)

-- ---- of two lists

pub among_left : {X : Type 0} (xs ys : List X) (x : X) → Among xs x → Among (xs ++ ys) x
among_left [] ys x among = absurd among
among_left (z ∷ xs) ys x (inl is) = inl is
among_left (z ∷ xs) ys x (inr later) = inr (among_left xs ys x later)

pub among_right : {X : Type 0} (xs ys : List X) (x : X) → Among ys x → Among (xs ++ ys) x
among_right [] ys x among = among
among_right (z ∷ xs) ys x among = inr (among_right xs ys x among)

pub among_parts : {X : Type 0} (xs ys : List X) (x : X) → Among (xs ++ ys) x → Among xs x ⊎ Among ys x
among_parts [] ys x among = inr among
among_parts (z ∷ xs) ys x (inl is) = inl (inl is)
among_parts (z ∷ xs) ys x (inr later) = by (among_parts xs ys x later)
  where
    by : Among xs x ⊎ Among ys x → Among (z ∷ xs) x ⊎ Among ys x
    by (inl among) = inl (inr among)
    by (inr among) = inr among

-- ---- of a list of values

pub among_map : {X Y : Type 0} (f : X → Y) (xs : List X) (x : X) → Among xs x → Among (map f xs) (f x)
among_map f [] x among = absurd among
among_map f (z ∷ xs) x (inl is) = inl (ap f is)
among_map f (z ∷ xs) x (inr later) = inr (among_map f xs x later)

pub among_unmap : {X Y : Type 0} (f : X → Y) (xs : List X) (y : Y) → Among (map f xs) y → (x : X) × Among xs x × (f x ≡ y)
among_unmap f [] y among = absurd among
among_unmap f (z ∷ xs) y (inl is) = (z, inl refl, is)
among_unmap f (z ∷ xs) y (inr later) = let found = among_unmap f xs y later in (found.0, inr found.1, found.2)

-- and of values of more
pub among_more : {X Y : Type 0} (f : X → Y) (xs ys : List X) (y : Y) → ((x : X) → Among xs x → Among ys x) → Among (map f xs) y → Among (map f ys) y
among_more f xs ys y more among =
    let found = among_unmap f xs y among in subst (Among (map f ys)) found.2 (among_map f ys found.0 (more found.0 found.1))

-- ---- tests

pub is_among-append : (v : ℕ) (xs ys : List ℕ) → is_among v (xs ++ ys) ≡ (is_among v xs || is_among v ys)
is_among-append v [] ys = refl
is_among-append v (x ∷ xs) ys = ap (λ b. (v == x) || b) (is_among-append v xs ys) ∙ sym (or_assoc (v == x) (is_among v xs) (is_among v ys))

-- ---- of lists joined, and a test of each element

pub among_flat : {X Y : Type 0} (f : X → List Y) (xs : List X) (x : X) (y : Y) → Among xs x → Among (f x) y → Among (flat_map f xs) y
among_flat f [] x y among inner = absurd among
among_flat f (z ∷ xs) x y (inl is) inner = among_left (f z) (flat_map f xs) y (subst (λ z. Among (f z) y) (sym is) inner)
among_flat f (z ∷ xs) x y (inr later) inner = among_right (f z) (flat_map f xs) y (among_flat f xs x y later inner)

pub among_unflat : {X Y : Type 0} (f : X → List Y) (xs : List X) (y : Y) → Among (flat_map f xs) y → (x : X) × Among xs x × Among (f x) y
among_unflat f [] y among = absurd among
among_unflat {X = X} f (z ∷ xs) y among = by (λ later. among_unflat f xs y later) (among_parts (f z) (flat_map f xs) y among)
  where
    by : (Among (flat_map f xs) y → (x : X) × Among xs x × Among (f x) y) → Among (f z) y ⊎ Among (flat_map f xs) y →
        (x : X) × Among (z ∷ xs) x × Among (f x) y
    by others (inl inner) = (z, inl refl, inner)
    by others (inr later) = let found = others later in (found.0, inr found.1, found.2)

pub all_among : {X : Type 0} (test : X → Bool) (xs : List X) (x : X) → list_all test xs ≡ true → Among xs x → test x ≡ true
all_among test [] x all among = absurd among
all_among test (y ∷ ys) x all (inl is) = subst (λ x. test x ≡ true) is (and_parts (test y) (list_all test ys) all).0
all_among test (y ∷ ys) x all (inr later) = all_among test ys x (and_parts (test y) (list_all test ys) all).1 later
