-- The bits of a site, eight to a byte: they read what they spell, and each place is that of its variable or none.
use Rattle.std.proofs.Common.{◌≡◌, ◌⊎◌, inl, inr, ℕ, zero, suc, ◌*◌, ◌/◌, ◌%◌, ◌≤◌, ◌||◌, ◌&&◌, Bool, true, false, not, IsTrue, nat_eq, if◌then◌else◌, List, [], ◌∷◌, ◌++◌, length, take, drop, replicate, refl, sym, ap, subst, ◌∙◌, arith}
use Rattle.std.proofs.lemmas.Bool.{cases_lt, eqb-true}
use Rattle.std.proofs.lemmas.Bool.Decides.{nat_tests}
use Rattle.std.proofs.lemmas.List.{append-nil, drop_all, drop_at, length-drop, length-take, take-append-drop, take_all, take_at}
use Rattle.cmm_format.proofs.Shared.{IsExact, number-exact, when-exact, then-exact, as-exact, seen-exact, given-exact}
use Rattle.cmm_image.specs.declared.rows.VariablePlace.{VariablePlace}
use Rattle.cmm_image.specs.declared.rows.VariablePlace.TheVariants.{Dead, Slot, Register}
use Rattle.cmm_image.specs.ImageFormat.{formed, one_if}
use Rattle.cmm_image.specs.SecondFormat.{are_among, is_live, is_mask, live_places, mask, mask_count, mask_number, masked, masks, or_place, or_places}

-- ---- one byte

-- a live variable's bit, whose place there is
bit_is : (p : VariablePlace) (b e : Bool) (n : ℕ) → nat_eq (n % 2) 1 ≡ b → nat_eq (n % 2) 0 ≡ e → IsTrue (is_live p || e) → one_if (is_live (if b then p else Dead)) ≡ n % 2
bit_is Dead true e n odd even holds = absurd (grind (arith, nat_tests))
bit_is Dead false e n odd even holds = grind (arith, nat_tests)
bit_is (Slot offset) true e n odd even holds = sym (eqb-true (n % 2) 1 odd)
bit_is (Slot offset) false e n odd even holds = grind (arith, nat_tests)
bit_is (Register register) true e n odd even holds = sym (eqb-true (n % 2) 1 odd)
bit_is (Register register) false e n odd even holds = grind (arith, nat_tests)

both : (a b : Bool) → IsTrue (a && b) → IsTrue a × IsTrue b
both true b h = (refl, h)
both false b h = absurd cc

pub mask-back : (places : List VariablePlace) (n : ℕ) → IsTrue (is_mask places n) → mask_number (masked places n) ≡ n
mask-back [] n h = sym (eqb-true n 0 h)
mask-back (p ∷ ps) n h =
    let parts = both (is_live p || nat_eq (n % 2) 0) (is_mask ps (n / 2)) h in
    let low = bit_is p (nat_eq (n % 2) 1) (nat_eq (n % 2) 0) n refl refl parts.0 in
    let high = mask-back ps (n / 2) parts.1 in
    omega (arith, low, high)

mask-exact : (places : List VariablePlace) → IsExact (mask places)
mask-exact places = seen-exact (masked places) mask_number (when-exact (formed (is_mask places) ∷ []) (number-exact _ 1)) (λ n holds. mask-back places n holds.1.0)

-- ---- places under others: each is that of its variable, or none

abbrev pub Under : List VariablePlace → List VariablePlace → Type 0
Under [] [] = Unit {0}
Under [] (q ∷ qs) = ⊥
Under (p ∷ ps) [] = ⊥
Under (p ∷ ps) (q ∷ qs) = ((q ≡ Dead) ⊎ (q ≡ p)) × Under ps qs

chosen : (b : Bool) (p : VariablePlace) → ((if b then p else Dead) ≡ Dead) ⊎ ((if b then p else Dead) ≡ p)
chosen true p = inr refl
chosen false p = inl refl

masked-under : (places : List VariablePlace) (n : ℕ) → Under places (masked places n)
masked-under [] n = tt
masked-under (p ∷ ps) n = (chosen (nat_eq (n % 2) 1) p, masked-under ps (n / 2))

pub under-length : (ps qs : List VariablePlace) → Under ps qs → length qs ≡ length ps
under-length [] [] u = refl
under-length [] (q ∷ qs) u = absurd u
under-length (p ∷ ps) [] u = absurd u
under-length (p ∷ ps) (q ∷ qs) u = ap suc (under-length ps qs u.1)

under-append : (ps qs rs ss : List VariablePlace) → Under ps qs → Under rs ss → Under (ps ++ rs) (qs ++ ss)
under-append [] [] rs ss u v = v
under-append [] (q ∷ qs) rs ss u v = absurd u
under-append (p ∷ ps) [] rs ss u v = absurd u
under-append (p ∷ ps) (q ∷ qs) rs ss u v = (u.0, under-append ps qs rs ss u.1 v)

mask-under : (places ps : List VariablePlace) → (mask places).Holds ps → Under places ps
mask-under places ps holds = subst (Under places) holds.1 (masked-under places (mask_number ps))

-- places behind the first eight, where there are no more, are none
masks-none : (n : ℕ) (ps : List VariablePlace) → (masks n []).Holds ps → ps ≡ []
masks-none zero ps holds = holds
masks-none (suc n) ps holds =
    let first = under-length [] (take 8 ps) (mask-under [] (take 8 ps) holds.0) in
    let rest : drop 8 ps ≡ [] = masks-none n (drop 8 ps) holds.1 in
    let count : length (take 8 ps) ≡ 0 = first in
    let none : take 8 ps ≡ [] = empty (take 8 ps) count in
    sym (take-append-drop 8 ps) ∙ ap (λ (t : List VariablePlace). t ++ drop 8 ps) none ∙ rest
  where
    empty : (xs : List VariablePlace) → length xs ≡ 0 → xs ≡ []
    empty [] e = refl
    empty (x ∷ xs) e = absurd (omega (arith, e))

-- the first eight and the others, joined, come apart again
splits : (n : ℕ) (places first others : List VariablePlace) → (mask (take 8 places)).Holds first → (masks n (drop 8 places)).Holds others →
    ◌≡◌ {A = List VariablePlace × List VariablePlace} (take 8 (first ++ others), drop 8 (first ++ others)) (first, others)
splits n places first others one more =
    let count = under-length (take 8 places) first (mask-under (take 8 places) first one) in
    let long = length-take 8 places in
    elim (cases_lt (length places) 8) [
      | inl few ↦
          let none : drop 8 places ≡ [] = drop_all 8 places (omega (arith, few)) in
          let gone : others ≡ [] = masks-none n others (subst (λ (ps : List VariablePlace). (masks n ps).Holds others) none more) in
          let whole : first ++ others ≡ first = ap (λ (t : List VariablePlace). first ++ t) gone ∙ append-nil first in
          rw (whole, take_all 8 first (omega (arith, count, long)), drop_all 8 first (omega (arith, count, long)), gone) refl
      | inr many ↦
          let eight : length first ≡ 8 = omega (arith, count, long, many) in
          rw (take_at first others 8 eight, drop_at first others 8 eight) refl
    ]

masks-exact : (n : ℕ) (places : List VariablePlace) → IsExact (masks n places)
masks-exact zero places = given-exact []
masks-exact (suc n) places =
    as-exact (λ x. x.0 ++ x.1) (λ ps. (take 8 ps, drop 8 ps)) (then-exact (mask-exact (take 8 places)) λ (first : List VariablePlace). masks-exact n (drop 8 places))
    (λ ps holds. take-append-drop 8 ps) (λ x holds. splits n places x.0 x.1 holds.0 holds.1)

pub live_places-exact : (places : List VariablePlace) → IsExact (live_places places)
live_places-exact places = masks-exact (mask_count (length places)) places

masks-under : (n : ℕ) (places ps : List VariablePlace) → length places ≤ 8 * n → (masks n places).Holds ps → Under places ps
masks-under zero [] ps few holds = subst (Under []) (sym holds) tt
masks-under zero (p ∷ places) ps few holds = absurd (omega (arith, few))
masks-under (suc n) places ps few holds =
    let first = mask-under (take 8 places) (take 8 ps) holds.0 in
    let rest = masks-under n (drop 8 places) (drop 8 ps) (omega (arith, few, length-drop 8 places)) holds.1 in
    let joined = under-append (take 8 places) (take 8 ps) (drop 8 places) (drop 8 ps) first rest in
    subst (λ (qs : List VariablePlace). Under qs ps) (take-append-drop 8 places)
    (subst (Under (take 8 places ++ drop 8 places)) (take-append-drop 8 ps) joined)

pub live-under : (places ps : List VariablePlace) → (live_places places).Holds ps → Under places ps
live-under places ps holds = masks-under (mask_count (length places)) places ps (omega arith) holds

-- ---- the places of all sites together

pub dead-under : (places : List VariablePlace) → Under places (replicate (length places) Dead)
dead-under [] = tt
dead-under (p ∷ ps) = (inl refl, dead-under ps)

or-under : (p q r : VariablePlace) → (q ≡ Dead) ⊎ (q ≡ p) → (r ≡ Dead) ⊎ (r ≡ p) → (or_place q r ≡ Dead) ⊎ (or_place q r ≡ p)
or-under p Dead r a b = b
or-under p (Slot offset) r a b = a
or-under p (Register register) r a b = a

pub ors-under : (ps qs rs : List VariablePlace) → Under ps qs → Under ps rs → Under ps (or_places qs rs)
ors-under [] [] [] u v = tt
ors-under [] [] (r ∷ rs) u v = absurd v
ors-under [] (q ∷ qs) rs u v = absurd u
ors-under (p ∷ ps) [] rs u v = absurd u
ors-under (p ∷ ps) (q ∷ qs) [] u v = absurd v
ors-under (p ∷ ps) (q ∷ qs) (r ∷ rs) u v = (or-under p q r u.0 v.0, ors-under ps qs rs u.1 v.1)

one_same : (p q : VariablePlace) → (q ≡ Dead) ⊎ (q ≡ p) → IsTrue (not (is_live p) || is_live q) → q ≡ p
one_same p q (inr same) h = same
one_same Dead q (inl dead) h = dead
one_same (Slot offset) Dead (inl dead) h = absurd cc
one_same (Slot offset) (Slot o) (inl dead) h = absurd cc
one_same (Slot offset) (Register r) (inl dead) h = absurd cc
one_same (Register register) Dead (inl dead) h = absurd cc
one_same (Register register) (Slot o) (inl dead) h = absurd cc
one_same (Register register) (Register r) (inl dead) h = absurd cc

-- where each place that there is stands among them, they are the places
pub all_same : (ps qs : List VariablePlace) → Under ps qs → IsTrue (are_among ps qs) → qs ≡ ps
all_same [] [] u h = refl
all_same [] (q ∷ qs) u h = absurd u
all_same (p ∷ ps) [] u h = absurd u
all_same (p ∷ ps) (q ∷ qs) u h =
    let parts = both (not (is_live p) || is_live q) (are_among ps qs) h in
    let first = one_same p q u.0 parts.0 in
    let rest = all_same ps qs u.1 parts.1 in
    rw (first, rest) refl
