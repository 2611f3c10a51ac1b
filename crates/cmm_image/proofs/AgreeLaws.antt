-- Sites whose variables have one place: the places of each are under those of all sites of its procedure together.
use Rattle.std.proofs.Common.{◌≡◌, All, ◌⊎◌, inl, inr, ℕ, zero, suc, ◌||◌, ◌&&◌, Bool, true, false, not, nat_eq, List, [], ◌∷◌, length, take, filter, replicate, slice_get, slice_index_or, Option, Some, None, refl, sym, ap, subst, ◌∙◌, arith}
use Rattle.std.specs.List.{list_any}
use Rattle.std.proofs.lemmas.Bool.{and_cases, both_ways, eq-eqb, eqb-true, not-false, or_parts}
use Rattle.std.proofs.lemmas.List.{length-replicate}
use Rattle.std.proofs.lemmas.List.Elements.{All-head, All-tail}
use Rattle.cmm_image.specs.declared.rows.SiteRow.{SiteRow}
use Rattle.cmm_image.specs.declared.rows.VariablePlace.{VariablePlace}
use Rattle.cmm_image.specs.declared.rows.VariablePlace.TheVariants.{Dead, Slot, Register}
use Rattle.cmm_image.specs.Migration.{HaveOnePlace, agree, differs_from, has_moved, place_of}
use Rattle.cmm_image.specs.SecondFormat.{are_among, is_live, or_place, or_places, places_among, places_with, sites_of}
use Rattle.cmm_image.proofs.DistinctLaws.{Each}
use Rattle.cmm_image.proofs.MaskLaws.{Under}
use Rattle.cmm_image.proofs.OrderLaws.{AreOf}

-- ---- each site, and those after it

-- no variable has another place at one of these than at this one before them
abbrev pub Stays : SiteRow → List SiteRow → Type 0
Stays s [] = Unit {0}
Stays s (t ∷ ts) = ((v : ℕ) → has_moved v s t ≡ false) × Stays s ts

abbrev pub AllStay : List SiteRow → Type 0
AllStay [] = Unit {0}
AllStay (s ∷ ss) = Stays s ss × AllStay ss

parts : (s : SiteRow) (earlier : List SiteRow) (v : ℕ) (o : Option SiteRow) → differs_from (s ∷ earlier) v o ≡ false →
    (differs_from (s ∷ []) v o ≡ false) × (differs_from earlier v o ≡ false)
parts s earlier v None e = (refl, refl)
parts s earlier v (Some t) e =
    let both = or_parts (has_moved v s t) (list_any (λ s. has_moved v s t) earlier) e in
    (rw (both.0) refl, both.1)

stays : (s : SiteRow) (ss : List SiteRow) → ((k v : ℕ) → differs_from (s ∷ []) v (slice_get ss k) ≡ false) → Stays s ss
stays s [] none = tt
stays s (t ∷ ts) none = (λ v. (or_parts (has_moved v s t) false (none 0 v)).0, stays s ts (λ k v. none (suc k) v))

pub all_stay : (ss : List SiteRow) → HaveOnePlace ss → AllStay ss
all_stay [] one = tt
all_stay (s ∷ ss) one = (
  stays s ss (λ k v. (parts s (take k ss) v (slice_get ss k) (one (suc k) v)).0),
  all_stay ss (λ k v. (parts s (take k ss) v (slice_get ss k) (one (suc k) v)).1),
)

stays_kept : (keeps : SiteRow → Bool) (s : SiteRow) (ss : List SiteRow) → Stays s ss → Stays s (filter keeps ss)
stays_kept keeps s [] all = tt
stays_kept keeps s (t ∷ ts) all = by (keeps t) refl (stays_kept keeps s ts all.1)
  where
    by : (b : Bool) → keeps t ≡ b → Stays s (filter keeps ts) → Stays s (filter keeps (t ∷ ts))
    by true e rest = rw e (all.0, rest)
    by false e rest = rw e rest

pub all_stay_kept : (keeps : SiteRow → Bool) (ss : List SiteRow) → AllStay ss → AllStay (filter keeps ss)
all_stay_kept keeps [] all = tt
all_stay_kept keeps (s ∷ ss) all = by (keeps s) refl (stays_kept keeps s ss all.0) (all_stay_kept keeps ss all.1)
  where
    by : (b : Bool) → keeps s ≡ b → Stays s (filter keeps ss) → AllStay (filter keeps ss) → AllStay (filter keeps (s ∷ ss))
    by true e first rest = rw e (first, rest)
    by false e first rest = rw e rest

pub each_kept : (P : SiteRow → Type 0) (keeps : SiteRow → Bool) (ss : List SiteRow) → Each P ss → Each P (filter keeps ss)
each_kept P keeps [] all = tt
each_kept P keeps (s ∷ ss) all = by (keeps s) refl (each_kept P keeps ss all.1)
  where
    by : (b : Bool) → keeps s ≡ b → Each P (filter keeps ss) → Each P (filter keeps (s ∷ ss))
    by true e rest = rw e (all.0, rest)
    by false e rest = rw e rest

pub are_of : (n : ℕ) (ss : List SiteRow) → AreOf n (sites_of n ss)
are_of n [] = tt
are_of n (s ∷ ss) = by (nat_eq s.procedure n) refl (are_of n ss)
  where
    by : (b : Bool) → nat_eq s.procedure n ≡ b → AreOf n (sites_of n ss) → AreOf n (sites_of n (s ∷ ss))
    by true e rest = rw e (eqb-true s.procedure n e, rest)
    by false e rest = rw e rest

-- ---- the places of all of them together

first_under : (p q : VariablePlace) → (p ≡ Dead) ⊎ (p ≡ or_place p q)
first_under Dead q = inl refl
first_under (Slot offset) q = inr refl
first_under (Register register) q = inr refl

firsts_under : (ps qs : List VariablePlace) → length ps ≡ length qs → Under (or_places ps qs) ps
firsts_under [] [] long = tt
firsts_under [] (q ∷ qs) long = absurd (omega (arith, long))
firsts_under (p ∷ ps) [] long = absurd (omega (arith, long))
firsts_under (p ∷ ps) (q ∷ qs) long = (first_under p q, firsts_under ps qs (omega (arith, long)))

later_under : (p q r : VariablePlace) → (r ≡ Dead) ⊎ (r ≡ q) → agree p r ≡ true → (r ≡ Dead) ⊎ (r ≡ or_place p q)
later_under Dead q r under same = under
later_under (Slot m) q Dead under same = inl refl
later_under (Slot m) q (Slot n) under same = inr (ap Slot (sym (eqb-true m n same)))
later_under (Slot m) q (Register n) under same = absurd cc
later_under (Register m) q Dead under same = inl refl
later_under (Register m) q (Slot n) under same = absurd cc
later_under (Register m) q (Register n) under same = inr (ap Register (sym (eqb-true m n same)))

laters_under : (ps qs rs : List VariablePlace) → length ps ≡ length qs → Under qs rs →
    ((v : ℕ) → agree (slice_index_or ps v Dead) (slice_index_or rs v Dead) ≡ true) → Under (or_places ps qs) rs
laters_under [] [] rs long under same = under
laters_under [] (q ∷ qs) rs long under same = absurd (omega (arith, long))
laters_under (p ∷ ps) [] rs long under same = absurd (omega (arith, long))
laters_under (p ∷ ps) (q ∷ qs) [] long under same = absurd under
laters_under (p ∷ ps) (q ∷ qs) (r ∷ rs) long under same =
    (later_under p q r under.0 (same 0), laters_under ps qs rs (omega (arith, long)) under.1 (λ v. same (suc v)))

or_long : (ps qs : List VariablePlace) → length ps ≡ length qs → length (or_places ps qs) ≡ length qs
or_long [] qs long = refl
or_long (p ∷ ps) [] long = long
or_long (p ∷ ps) (q ∷ qs) long = ap suc (or_long ps qs (omega (arith, long)))

-- ---- the first site, and then those behind it

or_twice : (p q r : VariablePlace) → or_place (or_place p q) r ≡ or_place p (or_place q r)
or_twice Dead q r = refl
or_twice (Slot offset) q r = refl
or_twice (Register register) q r = refl

ors_twice : (ps qs rs : List VariablePlace) → or_places (or_places ps qs) rs ≡ or_places ps (or_places qs rs)
ors_twice [] qs rs = refl
ors_twice (p ∷ ps) [] rs = refl
ors_twice (p ∷ ps) (q ∷ qs) [] = refl
ors_twice (p ∷ ps) (q ∷ qs) (r ∷ rs) = rw (or_twice p q r, ors_twice ps qs rs) refl

with_first : (ps qs : List VariablePlace) (ss : List SiteRow) → places_with (or_places ps qs) ss ≡ or_places ps (places_with qs ss)
with_first ps qs [] = refl
with_first ps qs (s ∷ ss) = ap (λ (places : List VariablePlace). places_with places ss) (ors_twice ps qs s.variables) ∙ with_first ps (or_places qs s.variables) ss

dead_first : (count : ℕ) (ps : List VariablePlace) → length ps ≡ count → or_places (replicate count Dead) ps ≡ ps
dead_first zero ps long = refl
dead_first (suc n) [] long = absurd (omega (arith, long))
dead_first (suc n) (p ∷ ps) long = ap (λ (qs : List VariablePlace). p ∷ qs) (dead_first n ps (omega (arith, long)))

or_dead : (p : VariablePlace) → or_place p Dead ≡ p
or_dead Dead = refl
or_dead (Slot offset) = refl
or_dead (Register register) = refl

dead_last : (count : ℕ) (ps : List VariablePlace) → length ps ≡ count → or_places ps (replicate count Dead) ≡ ps
dead_last zero [] long = refl
dead_last zero (p ∷ ps) long = absurd (omega (arith, long))
dead_last (suc n) [] long = absurd (omega (arith, long))
dead_last (suc n) (p ∷ ps) long = rw (or_dead p, dead_last n ps (omega (arith, long))) refl

pub among_first : (count : ℕ) (s : SiteRow) (ss : List SiteRow) → length s.variables ≡ count → places_among count (s ∷ ss) ≡ or_places s.variables (places_among count ss)
among_first count s ss long =
    ap (λ (places : List VariablePlace). places_with places ss) (dead_first count s.variables long ∙ sym (dead_last count s.variables long))
    ∙ with_first s.variables (replicate count Dead) ss

pub among_long : (count : ℕ) (ss : List SiteRow) → Each (λ s. length s.variables ≡ count) ss → length (places_among count ss) ≡ count
among_long count [] long = length-replicate count Dead
among_long count (s ∷ ss) long =
    let rest = among_long count ss long.1 in
    ap (λ (places : List VariablePlace). length places) (among_first count s ss long.0) ∙ or_long s.variables (places_among count ss) (long.0 ∙ sym rest) ∙ rest

same_there : (b c : Bool) → b ≡ true → (b && not c) ≡ false → c ≡ true
same_there b c is e = elim (and_cases b (not c) e) [ inl isn't ↦ absurd (both_ways b isn't is) | inr same ↦ not-false c same ]

still_under : (n count : ℕ) (s : SiteRow) (places : List VariablePlace) (ts : List SiteRow) → length s.variables ≡ length places → s.procedure ≡ n → AreOf n ts → Stays s ts →
    Each (λ t. Under places t.variables) ts → Each (λ t. Under (or_places s.variables places) t.variables) ts
still_under n count s places [] long own are stay all = tt
still_under n count s places (t ∷ ts) long own are stay all =
    let same : nat_eq s.procedure t.procedure ≡ true = eq-eqb s.procedure t.procedure (own ∙ sym are.0) in (
      laters_under s.variables places t.variables long all.0 (λ v. same_there (nat_eq s.procedure t.procedure) (agree (place_of v s) (place_of v t)) same (stay.0 v)),
      still_under n count s places ts long own are.1 stay.1 all.1,
    )

pub all_under : (n count : ℕ) (ss : List SiteRow) → AreOf n ss → Each (λ s. length s.variables ≡ count) ss → AllStay ss →
    Each (λ s. Under (places_among count ss) s.variables) ss
all_under n count [] are long stay = tt
all_under n count (s ∷ ss) are long stay =
    let same = long.0 ∙ sym (among_long count ss long.1) in
    subst (λ (places : List VariablePlace). Each (λ t. Under places t.variables) (s ∷ ss)) (sym (among_first count s ss long.0))
    (firsts_under s.variables (places_among count ss) same, still_under n count s (places_among count ss) ss same are.0 are.1 stay.0 (all_under n count ss are.1 long.1 stay.1))

among_one : (p : VariablePlace) → (not (is_live p) || is_live p) ≡ true
among_one Dead = refl
among_one (Slot offset) = refl
among_one (Register register) = refl

pub among_same : (ps : List VariablePlace) → are_among ps ps ≡ true
among_same [] = refl
among_same (p ∷ ps) = rw (among_one p, among_same ps) refl

-- ---- sites whose places are under those of their procedures

agree_itself : (p : VariablePlace) → agree p p ≡ true
agree_itself Dead = refl
agree_itself (Slot offset) = eq-eqb offset offset refl
agree_itself (Register register) = eq-eqb register register refl

pub agree_dead : (p : VariablePlace) → agree p Dead ≡ true
agree_dead Dead = refl
agree_dead (Slot offset) = refl
agree_dead (Register register) = refl

agree_under : (p q r : VariablePlace) → (q ≡ Dead) ⊎ (q ≡ p) → (r ≡ Dead) ⊎ (r ≡ p) → agree q r ≡ true
agree_under p q r (inl dead) more = rw dead refl
agree_under p q r (inr same) (inl dead) = rw dead (agree_dead q)
agree_under p q r (inr same) (inr other) = rw (same, other) (agree_itself p)

agree_all : (ps qs rs : List VariablePlace) (v : ℕ) → Under ps qs → Under ps rs → agree (slice_index_or qs v Dead) (slice_index_or rs v Dead) ≡ true
agree_all [] [] [] v one more = refl
agree_all [] [] (r ∷ rs) v one more = absurd more
agree_all [] (q ∷ qs) rs v one more = absurd one
agree_all (p ∷ ps) [] rs v one more = absurd one
agree_all (p ∷ ps) (q ∷ qs) [] v one more = absurd more
agree_all (p ∷ ps) (q ∷ qs) (r ∷ rs) zero one more = agree_under p q r one.0 more.0
agree_all (p ∷ ps) (q ∷ qs) (r ∷ rs) (suc v) one more = agree_all ps qs rs v one.1 more.1

module _ (places : ℕ → List VariablePlace) where
  abbrev pub IsUnder : SiteRow → Type 0
  IsUnder s = Under (places s.procedure) s.variables

  not_moved : (v : ℕ) (s t : SiteRow) → IsUnder s → IsUnder t → has_moved v s t ≡ false
  not_moved v s t one more = by (nat_eq s.procedure t.procedure) refl
    where
      by : (b : Bool) → nat_eq s.procedure t.procedure ≡ b → has_moved v s t ≡ false
      by true e =
          let under = subst (λ (n : ℕ). Under (places n) t.variables) (sym (eqb-true s.procedure t.procedure e)) more in
          rw (e, agree_all (places s.procedure) s.variables t.variables v one under) refl
      by false e = rw e refl

  none_moved : (v : ℕ) (earlier : List SiteRow) (t : SiteRow) → Each IsUnder earlier → IsUnder t → list_any (λ s. has_moved v s t) earlier ≡ false
  none_moved v [] t all one = refl
  none_moved v (s ∷ ss) t all one = rw (not_moved v s t all.0 one, none_moved v ss t all.1 one) refl

  each_taken : (k : ℕ) (ss : List SiteRow) → Each IsUnder ss → Each IsUnder (take k ss)
  each_taken zero ss all = tt
  each_taken (suc k) [] all = tt
  each_taken (suc k) (s ∷ ss) all = (all.0, each_taken k ss all.1)

  each_there : (k : ℕ) (ss : List SiteRow) (s : SiteRow) → Each IsUnder ss → slice_get ss k ≡ Some s → IsUnder s
  each_there k [] s all e = absurd cc
  each_there zero (t ∷ ts) s all e = subst IsUnder (let same : t ≡ s = cc in same) all.0
  each_there (suc k) (t ∷ ts) s all e = each_there k ts s all.1 e

  pub one_place : (ss : List SiteRow) → Each IsUnder ss → HaveOnePlace ss
  one_place ss all k v = by (slice_get ss k) refl
    where
      by : (o : Option SiteRow) → slice_get ss k ≡ o → differs_from (take k ss) v o ≡ false
      by None e = refl
      by (Some t) e = none_moved v (take k ss) t (each_taken k ss all) (each_there k ss t all e)

each_of : (P : SiteRow → Type 0) (ss : List SiteRow) → All P ss → Each P ss
each_of P [] all = tt
each_of P (s ∷ ss) all = (All-head P s ss all, each_of P ss (All-tail P s ss all))

-- where the places of each site are under those of its procedure, each variable has one
pub places_are_one : (places : ℕ → List VariablePlace) (ss : List SiteRow) → All (λ s. Under (places s.procedure) s.variables) ss → HaveOnePlace ss
places_are_one places ss all = one_place places ss (each_of (λ s. Under (places s.procedure) s.variables) ss all)
