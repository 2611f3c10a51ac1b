-- Of sites each variable has one place, or there is a first one with another place than before, and one alone.
use Rattle.std.proofs.Common.{◌≡◌, ◌⊎◌, inl, inr, ℕ, zero, suc, ◌+◌, ◌<◌, ◌≤◌, Bool, true, false, not, IsTrue, nat_eq, List, [], ◌∷◌, length, take, slice_get, slice_index_or, Option, Some, None, refl, sym, ap, subst, ◌∙◌, arith}
use Rattle.std.specs.List.{list_any}
use Rattle.std.proofs.lemmas.Bool.{and_right, both_ways, cases_Bool, cases_lt, cases_order, not_from_true, or_from}
use Rattle.std.proofs.lemmas.List.{get_or_past}
use Rattle.std.proofs.lemmas.Option.{slice_get_past}
use Rattle.cmm_image.specs.declared.rows.SiteRow.{SiteRow}
use Rattle.cmm_image.specs.declared.rows.VariablePlace.{VariablePlace}
use Rattle.cmm_image.specs.declared.rows.VariablePlace.TheVariants.{Dead, Slot, Register}
use Rattle.cmm_image.specs.Migration.{HaveOnePlace, IsFirstDifference, agree, differs, differs_from, has_moved, place_of}
use Rattle.cmm_image.specs.SecondFormat.{is_live}
use Rattle.cmm_image.proofs.AgreeLaws.{agree_dead}

-- of numbers, each of which is P or Q, and P from one on, all are P, or there is a first that is Q
module _ (P Q : ℕ → Type 0) (either : (k : ℕ) → P k ⊎ Q k) (n : ℕ) (past : (k : ℕ) → n ≤ k → P k) where
  least_from : (left k : ℕ) → left + k ≡ n → ((j : ℕ) → j < k → P j) → ((k : ℕ) → P k) ⊎ ((k : ℕ) × Q k × ((j : ℕ) → j < k → P j))
  least_from zero k sum lower = inl (λ j. elim (cases_lt j k) [ inl less ↦ lower j less | inr more ↦ past j (omega (arith, sum, more)) ])
  least_from (suc left) k sum lower =
      elim (either k) [
        | inl here ↦
            least_from left (suc k) (omega (arith, sum)) (λ j less. elim (cases_lt j k) [
              | inl lesser ↦ lower j lesser
              | inr more ↦ subst P (let same : k ≡ j = omega (arith, less, more) in same) here
            ])
        | inr there ↦ inr (k, there, lower)
      ]

  least : ((k : ℕ) → P k) ⊎ ((k : ℕ) × Q k × ((j : ℕ) → j < k → P j))
  least = least_from n 0 (omega arith) (λ j less. absurd (omega (arith, less)))

false_or_true : (b : Bool) → (b ≡ false) ⊎ (b ≡ true)
false_or_true b = elim (cases_Bool b) [ inl is ↦ inr is | inr isn't ↦ inl isn't ]

-- ---- a variable that is dead, or beyond the last one, and a site beyond the last one

none_dead : (v : ℕ) (t : SiteRow) (earlier : List SiteRow) → place_of v t ≡ Dead → list_any (λ s. has_moved v s t) earlier ≡ false
none_dead v t [] dead = refl
none_dead v t (s ∷ ss) dead =
    let same : agree (place_of v s) (place_of v t) ≡ true = ap (agree (place_of v s)) dead ∙ agree_dead (place_of v s) in
    or_from (has_moved v s t) (list_any (λ s. has_moved v s t) ss)
    (and_right (nat_eq s.procedure t.procedure) (not (agree (place_of v s) (place_of v t))) (not_from_true (agree (place_of v s) (place_of v t)) same)) (none_dead v t ss dead)

variable_count : Option SiteRow → ℕ
variable_count None = 0
variable_count (Some t) = length t.variables

variables_past : (earlier : List SiteRow) (v : ℕ) (o : Option SiteRow) → variable_count o ≤ v → differs_from earlier v o ≡ false
unfolding variable_count
variables_past earlier v None past = refl
variables_past earlier v (Some t) past = none_dead v t earlier (get_or_past t.variables v Dead past)

sites_past : (ss : List SiteRow) (k v : ℕ) → length ss ≤ k → differs ss k v ≡ false
sites_past ss k v past = ap (differs_from (take k ss) v) (slice_get_past ss k past)

live_or_dead : (p : VariablePlace) → (IsTrue (is_live p)) ⊎ (p ≡ Dead)
live_or_dead Dead = inr refl
live_or_dead (Slot offset) = inl refl
live_or_dead (Register register) = inl refl

-- where it is live it stands in the list
stands : (ps : List VariablePlace) (v : ℕ) → IsTrue (is_live (slice_index_or ps v Dead)) → slice_get ps v ≡ Some (slice_index_or ps v Dead)
stands [] v live = absurd cc
stands (p ∷ ps) zero live = refl
stands (p ∷ ps) (suc v) live = stands ps v live

pub differences_are_live : (sites : List SiteRow) (k v : ℕ) → differs sites k v ≡ true →
    (s : SiteRow) × (p : VariablePlace) × (slice_get sites k ≡ Some s) × (slice_get s.variables v ≡ Some p) × IsTrue (is_live p)
differences_are_live sites k v there = by (slice_get sites k) refl there
  where
    by : (o : Option SiteRow) → slice_get sites k ≡ o → differs_from (take k sites) v o ≡ true →
        (s : SiteRow) × (p : VariablePlace) × (slice_get sites k ≡ Some s) × (slice_get s.variables v ≡ Some p) × IsTrue (is_live p)
    by None e there = absurd cc
    by (Some t) e there = elim (live_or_dead (place_of v t)) [
      | inl live ↦ (t, place_of v t, e, stands t.variables v live, live)
      | inr dead ↦ absurd (both_ways (list_any (λ s. has_moved v s t) (take k sites)) (none_dead v t (take k sites) dead) there)
    ]

-- ---- the first difference

module _ (sites : List SiteRow) where
  abbrev OneAt : ℕ → Type 0
  OneAt k = (v : ℕ) → differs sites k v ≡ false

  abbrev FirstAt : ℕ → Type 0
  FirstAt k = (v : ℕ) × (differs sites k v ≡ true) × ((u : ℕ) → u < v → differs sites k u ≡ false)

  one_or_first : (k : ℕ) → OneAt k ⊎ FirstAt k
  one_or_first k = least (λ v. differs sites k v ≡ false) (λ v. differs sites k v ≡ true) (λ v. false_or_true (differs sites k v)) (variable_count (slice_get sites k))
      (λ v past. variables_past (take k sites) v (slice_get sites k) past)

  pub one_place_or_difference : HaveOnePlace sites ⊎ ((k : ℕ) × (v : ℕ) × IsFirstDifference sites k v)
  one_place_or_difference = by (least OneAt FirstAt one_or_first (length sites) (λ k past v. sites_past sites k v past))
    where
      by : ((k : ℕ) → OneAt k) ⊎ ((k : ℕ) × FirstAt k × ((j : ℕ) → j < k → OneAt j)) → HaveOnePlace sites ⊎ ((k : ℕ) × (v : ℕ) × IsFirstDifference sites k v)
      by (inl all) = inl all
      by (inr first) = inr (first.0, first.1.0, record { here = first.1.1; earlier = λ j u less. first.2 j less u; lower = first.1.2 })

same_number : (m n : ℕ) → (m < n → ⊥) → (n < m → ⊥) → m ≡ n
same_number m n less more = elim (cases_order m n) [ inl same ↦ same | inr (inl low) ↦ absurd (less low) | inr (inr high) ↦ absurd (more high) ]

pub first_differences_are_one : (sites : List SiteRow) (j k u v : ℕ) → IsFirstDifference sites j u → IsFirstDifference sites k v → (j ≡ k) × (u ≡ v)
first_differences_are_one sites j k u v one other = (site, variable)
  where
    site : j ≡ k
    site = same_number j k (λ less. both_ways (differs sites j u) (other.earlier j u less) one.here) (λ less. both_ways (differs sites k v) (one.earlier k v less) other.here)

    variable : u ≡ v
    variable = same_number u v
        (λ less. both_ways (differs sites j u) (subst (λ (n : ℕ). differs sites n u ≡ false) (sym site) (other.lower u less)) one.here)
        (λ less. both_ways (differs sites k v) (subst (λ (n : ℕ). differs sites n v ≡ false) site (one.lower v less)) other.here)
