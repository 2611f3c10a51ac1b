-- The first fault of units, a unit after the other: what the first broken one breaks comes before all that later ones do.
use Rattle.std.proofs.Common.{◌≡◌, ℕ, suc, ◌+◌, ◌<◌, ◌==◌, length, take, drop, get_or, Bool, true, false, ◌||◌, ◌&&◌, map, refl, ap, sym, ◌∙◌, List, [], ◌∷◌, ◌++◌, Option, Some, None, option_map, arith}
use Rattle.std.specs.Prelude.{nat_lt}
use Rattle.std.proofs.lemmas.Bool.Decides.{nat_tests}
use Rattle.cmm_static_semantics.specs.declared.spot.Spot.{Spot}
use Rattle.cmm_static_semantics.specs.Spots.{first_by, sooner_by, comes_before, first_of}
use Rattle.cmm_static_semantics.specs.Linking.{Program}
use Rattle.cmm_static_semantics.specs.Faults.{stands_before}
use Rattle.cmm_check_units.specs.inside.Flat.{Flat, flat_spots, placed, flats_broken}
use Rattle.cmm_static_semantics.proofs.Shared.{first_by_append, rest_next, mapped_next}

not_less : (n : ℕ) → nat_lt n n ≡ false
not_less n = grind (arith, nat_tests)

same_number : (n : ℕ) → (n == n) ≡ true
same_number n = grind (arith, nat_tests)

not_before : (m n : ℕ) → n < m → nat_lt m n ≡ false
not_before m n less = grind (arith, nat_tests)

another : (m n : ℕ) → n < m → (m == n) ≡ false
another m n less = grind (arith, nat_tests)

pub in_one : (n : ℕ) (b : Bool) → (nat_lt n n || ((n == n) && b)) ≡ b
in_one n b = rw (not_less n, same_number n) refl

in_later : (m n : ℕ) (b : Bool) → n < m → (nat_lt m n || ((m == n) && b)) ≡ false
in_later m n b less = rw (not_before m n less, another m n less) refl

abbrev chosen : {A : Type 0} → Bool → A → A → Option A
chosen b a c = elim b [ true ↦ Some a | false ↦ Some c ]

placed_chosen : (n : ℕ) (b : Bool) (s t : Spot) → chosen b (placed n s) (placed n t) ≡ option_map (placed n) (chosen b s t)
placed_chosen n true s t = refl
placed_chosen n false s t = refl

-- spots of one unit are ordered as in it
pub first_placed : (n : ℕ) (best : Option Spot) (ss : List Spot) → first_by stands_before (option_map (placed n) best) (map (placed n) ss) ≡ option_map (placed n) (first_of best ss)
first_placed n best [] = refl
first_placed n None (s ∷ ss) = first_placed n (Some s) ss
first_placed n (Some t) (s ∷ ss) =
    ap (λ q. first_by stands_before q (map (placed n) ss)) (ap (λ b. chosen b (placed n s) (placed n t)) (in_one n (comes_before s t)) ∙ placed_chosen n (comes_before s t) s t)
    ∙ first_placed n (sooner_by comes_before (Some t) (Some s)) ss

-- no spot of a later unit comes first
stays : (m n : ℕ) (s : Spot) (ss : List Spot) → n < m → first_by stands_before (Some (placed n s)) (map (placed m) ss) ≡ Some (placed n s)
stays m n s [] less = refl
stays m n s (t ∷ ss) less =
    ap (λ b. first_by stands_before (chosen b (placed m t) (placed n s)) (map (placed m) ss)) (in_later m n (comes_before t s) less) ∙ stays m n s ss less

later_stays : (program : Program) (before : List Flat) (m n : ℕ) (s : Spot) (fs : List Flat) → n < m → first_by stands_before (Some (placed n s)) (flats_broken program before m fs) ≡ Some (placed n s)
later_stays program before m n s [] less = refl
later_stays program before m n s (f ∷ fs) less =
    first_by_append stands_before (Some (placed n s)) (map (placed m) (flat_spots program before f)) (flats_broken program (before ++ f ∷ []) (suc m) fs)
    ∙ ap (λ q. first_by stands_before q (flats_broken program (before ++ f ∷ []) (suc m) fs)) (stays m n s (flat_spots program before f) less)
    ∙ later_stays program (before ++ f ∷ []) (suc m) n s fs (omega arith)

-- whatever the first unit breaks
by_unit : (program : Program) (before : List Flat) (n : ℕ) (f : Flat) (fs : List Flat) → first_by stands_before None (flats_broken program before n (f ∷ fs))
    ≡ first_by stands_before (option_map (placed n) (first_of None (flat_spots program before f))) (flats_broken program (before ++ f ∷ []) (suc n) fs)
by_unit program before n f fs =
    first_by_append stands_before None (map (placed n) (flat_spots program before f)) (flats_broken program (before ++ f ∷ []) (suc n) fs)
    ∙ ap (λ q. first_by stands_before q (flats_broken program (before ++ f ∷ []) (suc n) fs)) (first_placed n None (flat_spots program before f))

pub first_here : (program : Program) (before : List Flat) (n : ℕ) (f : Flat) (fs : List Flat) (s : Spot) → first_of None (flat_spots program before f) ≡ Some s →
    first_by stands_before None (flats_broken program before n (f ∷ fs)) ≡ Some (placed n s)
first_here program before n f fs s is =
    by_unit program before n f fs ∙ ap (λ q. first_by stands_before (option_map (placed n) q) (flats_broken program (before ++ f ∷ []) (suc n) fs)) is
    ∙ later_stays program (before ++ f ∷ []) (suc n) n s fs (omega arith)

pub first_later : (program : Program) (before : List Flat) (n : ℕ) (f : Flat) (fs : List Flat) → first_of None (flat_spots program before f) ≡ None →
    first_by stands_before None (flats_broken program before n (f ∷ fs)) ≡ first_by stands_before None (flats_broken program (before ++ f ∷ []) (suc n) fs)
first_later program before n f fs is =
    by_unit program before n f fs ∙ ap (λ q. first_by stands_before (option_map (placed n) q) (flats_broken program (before ++ f ∷ []) (suc n) fs)) is

-- a turn of a loop over units, of which this one breaks nothing
pub later_step : {A : Type 0} (h : A → Flat) (program : Program) (xs : List A) (i : ℕ) (x : A) → i < length xs → x ≡ get_or xs i x →
    first_of None (flat_spots program (map h (take i xs)) (h x)) ≡ None →
    first_by stands_before None (flats_broken program (map h (take i xs)) i (map h (drop i xs)))
    ≡ first_by stands_before None (flats_broken program (map h (take (i + 1) xs)) (i + 1) (map h (drop (i + 1) xs)))
later_step h program xs i x within is none =
    let e : suc i ≡ i + 1 = omega arith in
    let before = map h (take i xs) in
    let rest = map h (drop (i + 1) xs) in
    ap (λ q. first_by stands_before None (flats_broken program before i q)) (rest_next h xs i x within is)
    ∙ first_later program before i (h x) rest none
    ∙ ap (λ q. first_by stands_before None (flats_broken program q (suc i) rest)) (sym (mapped_next h xs i x within is))
    ∙ ap (λ k. first_by stands_before None (flats_broken program (map h (take (i + 1) xs)) k rest)) e

-- and of which this one is the first that breaks something
pub here_step : {A : Type 0} (h : A → Flat) (program : Program) (xs : List A) (i : ℕ) (x : A) (s : Spot) → i < length xs → x ≡ get_or xs i x →
    first_of None (flat_spots program (map h (take i xs)) (h x)) ≡ Some s →
    first_by stands_before None (flats_broken program (map h (take i xs)) i (map h (drop i xs))) ≡ Some (placed i s)
here_step h program xs i x s within is some =
    ap (λ q. first_by stands_before None (flats_broken program (map h (take i xs)) i q)) (rest_next h xs i x within is)
    ∙ first_here program (map h (take i xs)) i (h x) (map h (drop (i + 1) xs)) s some
