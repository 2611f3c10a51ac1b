-- The places that were seen, site after site, tell at which site a variable has another place than before.
use Rattle.std.proofs.Common.{◌≡◌, ℕ, zero, suc, ◌+◌, ◌<◌, ◌≤◌, ◌&&◌, ◌||◌, Bool, true, false, not, nat_eq, List, [], ◌∷◌, length, take, map, set, slice_index_or, Some, refl, sym, ap, subst, ◌∙◌, arith, inl, inr}
use Rattle.std.proofs.lemmas.Bool.{cases_eq, cases_lt}
use Rattle.std.proofs.lemmas.Bool.Decides.{nat_tests}
use Rattle.std.specs.Prelude.{All}
use Rattle.std.proofs.lemmas.List.{get_or-map, get_or-set_other, get_or-set_same, length-map, length-set, map-set}
use Rattle.std.proofs.lemmas.List.Folds.{list_any_more}
use Rattle.std.proofs.lemmas.Option.{slice_get-get_or, slice_get_past}
use Rattle.cmm_image.specs.declared.rows.SiteRow.{SiteRow}
use Rattle.cmm_image.specs.declared.rows.VariablePlace.{VariablePlace}
use Rattle.cmm_image.specs.declared.rows.VariablePlace.TheVariants.{Dead, Slot, Register}
use Rattle.cmm_image.specs.Migration.{HaveOnePlace, agree, differs, differs_from, place_of}
use Rattle.cmm_image.specs.SecondFormat.{or_place, or_places}
use Rattle.cmm_image.specs.inside.Seen.{AreSeen, agree_at, has_other}

or_same : (b : Bool) → (b || b) ≡ b
or_same true = refl
or_same false = refl

or_false : (b : Bool) → (b || false) ≡ b
or_false true = refl
or_false false = refl

-- of two places that agree, a third is another than one exactly where it is another than the one that is live
merged : (k t q : VariablePlace) → agree k t ≡ true → (not (agree k q) || not (agree t q)) ≡ not (agree (or_place k t) q)
merged Dead t q fits = refl
merged (Slot m) Dead q fits = or_false (not (agree (Slot m) q))
merged (Slot m) (Slot n) q fits = let same : m ≡ n = grind (arith, nat_tests, fits) in ap (λ (i : ℕ). not (agree (Slot m) q) || not (agree (Slot i) q)) (sym same) ∙ or_same (not (agree (Slot m) q))
merged (Slot m) (Register r) q fits = absurd cc
merged (Register r) Dead q fits = or_false (not (agree (Register r) q))
merged (Register r) (Slot n) q fits = absurd cc
merged (Register r) (Register s) q fits = let same : r ≡ s = grind (arith, nat_tests, fits) in ap (λ (i : ℕ). not (agree (Register r) q) || not (agree (Register i) q)) (sym same) ∙ or_same (not (agree (Register r) q))

or_dead : (k : VariablePlace) → or_place k Dead ≡ k
or_dead Dead = refl
or_dead (Slot m) = refl
or_dead (Register r) = refl

merged_at : (ks ts : List VariablePlace) (v : ℕ) → slice_index_or (or_places ks ts) v Dead ≡ or_place (slice_index_or ks v Dead) (slice_index_or ts v Dead)
merged_at [] ts v = refl
merged_at (k ∷ ks) [] v = sym (or_dead (slice_index_or (k ∷ ks) v Dead))
merged_at (k ∷ ks) (t ∷ ts) zero = refl
merged_at (k ∷ ks) (t ∷ ts) (suc v) = merged_at ks ts v

module _ (procedures : ℕ) (seen : List (List VariablePlace)) (sites : List SiteRow) (k : ℕ) (t : SiteRow)
    (less : k < length sites) (is : slice_index_or sites k t ≡ t) (low : t.procedure < procedures) (so_far : AreSeen procedures seen (take k sites)) where
  abbrev own : List VariablePlace
  own = slice_index_or seen t.procedure []

  -- at this site a variable differs where its place does not agree with the one that was seen
  pub differs_is : (v : ℕ) → differs sites k v ≡ not (agree_at own t.variables v)
  differs_is v = ap (differs_from (take k sites) v) (slice_get-get_or sites k t less ∙ ap (λ (s : SiteRow). Some s) is) ∙ so_far.each t.procedure v (place_of v t) low

  abbrev new : List (List VariablePlace)
  new = set seen t.procedure (or_places own t.variables)

  pub seen_next : ((v : ℕ) → agree_at own t.variables v ≡ true) → AreSeen procedures (set seen t.procedure (or_places own t.variables)) (take (k + 1) sites)
  seen_next fits = record {
    count = length-set seen t.procedure (or_places own t.variables) ∙ so_far.count;
    each = λ p v q within. more p v q ∙ elim (cases_eq p t.procedure) [
      | inl here ↦ same p v q here
      | inr other ↦ apart p v q within other
    ];
  }
    where
      more : (p v : ℕ) (q : VariablePlace) → has_other (take (k + 1) sites) p v q ≡ (has_other (take k sites) p v q || (nat_eq t.procedure p && not (agree (place_of v t) q)))
      more p v q = list_any_more (λ s. nat_eq s.procedure p && not (agree (place_of v s) q)) sites k t less
          ∙ ap (λ (s : SiteRow). has_other (take k sites) p v q || (nat_eq s.procedure p && not (agree (place_of v s) q))) is

      same : (p v : ℕ) (q : VariablePlace) → p ≡ t.procedure →
          (has_other (take k sites) p v q || (nat_eq t.procedure p && not (agree (place_of v t) q))) ≡ not (agree (slice_index_or (slice_index_or new p []) v Dead) q)
      same p v q here =
          let yes : nat_eq t.procedure p ≡ true = grind (arith, nat_tests, here) in
          ap (λ (b : Bool). has_other (take k sites) p v q || (b && not (agree (place_of v t) q))) yes
          ∙ ap (λ (m : ℕ). has_other (take k sites) m v q || not (agree (place_of v t) q)) here
          ∙ ap (λ (b : Bool). b || not (agree (place_of v t) q)) (so_far.each t.procedure v q low)
          ∙ merged (slice_index_or own v Dead) (place_of v t) q (fits v)
          ∙ ap (λ (r : VariablePlace). not (agree r q)) (sym (merged_at own t.variables v))
          ∙ ap (λ (ps : List VariablePlace). not (agree (slice_index_or ps v Dead) q))
          (sym (ap (λ (m : ℕ). slice_index_or (set seen t.procedure (or_places own t.variables)) m []) here
          ∙ get_or-set_same seen t.procedure (or_places own t.variables) [] (let size = so_far.count in omega (arith, size, low))))

      apart : (p v : ℕ) (q : VariablePlace) → p < procedures → (p ≡ t.procedure → ⊥) →
          (has_other (take k sites) p v q || (nat_eq t.procedure p && not (agree (place_of v t) q))) ≡ not (agree (slice_index_or (slice_index_or new p []) v Dead) q)
      apart p v q within other =
          let no : nat_eq t.procedure p ≡ false = grind (arith, nat_tests, other) in
          ap (λ (b : Bool). has_other (take k sites) p v q || (b && not (agree (place_of v t) q))) no
          ∙ or_false (has_other (take k sites) p v q)
          ∙ so_far.each p v q within
          ∙ ap (λ (ps : List VariablePlace). not (agree (slice_index_or ps v Dead) q)) (sym (get_or-set_other seen t.procedure p (or_places own t.variables) [] other))

-- the same, of places that are kept in vectors
module _ {V : Type 0} (items : V → List VariablePlace) (procedures : ℕ) (seen : List V) (sites : List SiteRow) (k : ℕ) (t : SiteRow)
    (less : k < length sites) (is : t ≡ slice_index_or sites k t) (all : All (λ s. s.procedure < procedures) sites) (so_far : AreSeen procedures (map items seen) (take k sites))
    (v : V) (value : v ≡ slice_index_or seen t.procedure v) (here there : List VariablePlace) (of_seen : here ≡ items v) (of_site : there ≡ t.variables) where
  low : t.procedure < procedures
  low = subst (λ (s : SiteRow). s.procedure < procedures) (sym is) (all k t less)

  own_is : here ≡ slice_index_or (map items seen) t.procedure []
  own_is =
      let size = so_far.count in
      let within : t.procedure < length seen = omega (arith, low, size, length-map seen items) in
      of_seen ∙ ap items value ∙ sym (get_or-map items seen t.procedure v [] within)

  agree_same : (u : ℕ) → agree_at (slice_index_or (map items seen) t.procedure []) t.variables u ≡ agree_at here there u
  agree_same u = ap (λ (ps : List VariablePlace). agree_at ps t.variables u) (sym own_is) ∙ ap (λ (ps : List VariablePlace). agree_at here ps u) (sym of_site)

  pub step_differs : (u : ℕ) → differs sites k u ≡ not (agree_at here there u)
  step_differs u = differs_is procedures (map items seen) sites k t less (sym is) low so_far u ∙ ap not (agree_same u)

  pub step_seen : ((u : ℕ) → agree_at here there u ≡ true) → (new : V) → items new ≡ or_places (items v) t.variables → AreSeen procedures (map items (set seen t.procedure new)) (take (k + 1) sites)
  step_seen fits new made =
      let e : set (map items seen) t.procedure (or_places (slice_index_or (map items seen) t.procedure []) t.variables) ≡ map items (set seen t.procedure new) =
      ap (λ (ps : List VariablePlace). set (map items seen) t.procedure (or_places ps t.variables)) (sym own_is ∙ of_seen)
      ∙ ap (set (map items seen) t.procedure) (sym made) ∙ sym (map-set items seen t.procedure new) in
      subst (λ (s : List (List VariablePlace)). AreSeen procedures s (take (k + 1) sites)) e (seen_next procedures (map items seen) sites k t less (sym is) low so_far (λ u. agree_same u ∙ fits u))

pub none_past : (sites : List SiteRow) (number : ℕ) → length sites ≤ number → ((j v : ℕ) → j < number → differs sites j v ≡ false) → HaveOnePlace sites
none_past sites number past before k v = elim (cases_lt k number) [
  | inl less ↦ before k v less
  | inr more ↦ ap (differs_from (take k sites) v) (slice_get_past sites k (omega (arith, past, more)))
]

pub before_next : (sites : List SiteRow) (number : ℕ) → ((j v : ℕ) → j < number → differs sites j v ≡ false) → ((v : ℕ) → differs sites number v ≡ false) →
    (j v : ℕ) → j < number + 1 → differs sites j v ≡ false
before_next sites number before last j v less = elim (cases_lt j number) [
  | inl low ↦ before j v low
  | inr high ↦ let same : j ≡ number = omega (arith, less, high) in ap (λ (n : ℕ). differs sites n v) same ∙ last v
]
