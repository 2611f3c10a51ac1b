-- Version 2's tables read what they spell and nothing else.
use Rattle.std.proofs.Common.{◌≡◌, ℕ, suc, ◌<◌, ◌≤◌, ◌==◌, ◌||◌, false, IsTrue, List, [], ◌∷◌, ◌++◌, length, map, flat_map, replicate, Option, Some, None, refl, sym, ap, subst, ◌∙◌, arith}
use Rattle.std.specs.List.{zip}
use Rattle.std.specs.Option.{option_map}
use Rattle.std.proofs.lemmas.Bool.{eqb-true}
use Rattle.std.proofs.lemmas.List.{append-nil, length-append, length-map}
use Rattle.std.proofs.lemmas.List.Elements.{filter-append}
use Rattle.cmm_format.specs.Formats.{AreRows, AreRowsBehind}
use Rattle.cmm_format.proofs.Shared.{IsExact, number-exact, when-exact, then-exact, as-exact, seen-exact, given-exact, counted-exact, behind-exact}
use Rattle.cmm_image.specs.declared.procedure_record.PlacedVariable.{PlacedVariable}
use Rattle.cmm_image.specs.declared.procedure_record.ProcedureRecord.{ProcedureRecord}
use Rattle.cmm_image.specs.declared.rows.SiteRow.{SiteRow}
use Rattle.cmm_image.specs.declared.rows.VariableRow.{VariableRow}
use Rattle.cmm_image.specs.declared.rows.VariablePlace.{VariablePlace}
use Rattle.cmm_image.specs.declared.rows.VariablePlace.TheVariants.{Dead}
use Rattle.cmm_image.specs.ImageFormat.{FieldsWith, above, formed, in_code, may_have_sites}
use Rattle.cmm_image.specs.SecondFormat.{RecordFields, addresses_of, are_among, in_order, is_total, is_unlike, last_code, live_site, placed, placed_variable, places_among, places_with, or_places, procedure_record, record_fields, record_of, records_from, records_of, row_places, second_tables, sites_of, sites_of_record, tables_of}
use Rattle.cmm_image.proofs.ImageLaws.{lists_with-exact, procedure_with-exact, site_with-exact, variable-exact}
use Rattle.cmm_image.proofs.MaskLaws.{Under, all_same, dead-under, live-under, live_places-exact, ors-under}
use Rattle.cmm_image.proofs.OrderLaws.{AreOf, Rising, order_kept, order_rising, other_sites, own_sites}
use Rattle.cmm_image.proofs.PlaceLaws.{place-exact}

-- ---- records

live_site-exact : (code_length procedure : ℕ) (earlier : List ℕ) (places : List VariablePlace) (continuations : ℕ) (previous : Option SiteRow) →
    IsExact (live_site code_length procedure earlier places continuations previous)
live_site-exact code_length procedure earlier places continuations previous =
    site_with-exact (above (option_map (λ s. s.return_address) previous) ∷ formed (is_unlike earlier) ∷ in_code code_length ∷ []) (given-exact procedure)
    (λ n. lists_with-exact (live_places-exact places) code_length continuations)

placed_variable-exact : (frame : ℕ) (previous : Option PlacedVariable) → IsExact (placed_variable frame previous)
placed_variable-exact frame previous = as-exact (λ x. record { row = x.0; place = x.1 }) (λ v. (v.row, v.place))
    (then-exact (variable-exact None) λ (row : VariableRow). place-exact frame None) (λ b holds. refl) (λ a holds. refl)

sites_of_record-exact : (code_length : ℕ) (before : List ProcedureRecord) (p : FieldsWith PlacedVariable) → IsExact (sites_of_record code_length before p)
sites_of_record-exact code_length before (code, (name, (frame, (return_at, (saved, (variables, (stack_labels, continuations))))))) =
    counted-exact (when-exact (formed (λ n. (n == 0) || may_have_sites frame return_at) ∷ []) (number-exact _ 4))
    (live_site-exact code_length (length before) (addresses_of before) (row_places variables) (length continuations)) (λ p a. refl)

zipped : (vs : List PlacedVariable) → map placed (zip (map (λ v. v.row) vs) (map (λ v. v.place) vs)) ≡ vs
zipped [] = refl
zipped (v ∷ vs) = ap (λ (ws : List PlacedVariable). v ∷ ws) (zipped vs)

fields_back : (x : RecordFields) → x.1.1 ≡ 0 → record_fields (record_of x) ≡ x
fields_back ((code, (name, (frame, (return_at, (saved, (variables, (stack_labels, continuations))))))), (sites, end)) is = rw (zipped variables, is) refl

pub record-exact : (code_length procedures total : ℕ) (before : List ProcedureRecord) → IsExact (procedure_record code_length procedures total before)
record-exact code_length procedures total before = seen-exact record_of record_fields
    (then-exact (procedure_with-exact {variable = placed_variable} placed_variable-exact (λ frame p a. refl) code_length (last_code before)) λ (p : FieldsWith PlacedVariable).
    then-exact (sites_of_record-exact code_length before p) λ (sites : List SiteRow).
    when-exact (
    formed (λ n. n == 0)
    ∷ formed (λ n. are_among (row_places p.1.1.1.1.1.0) (places_among (length (row_places p.1.1.1.1.1.0)) sites))
    ∷ formed (λ n. is_total procedures total before sites)
    ∷ []
    ) (number-exact _ 1))
    (λ x holds. fields_back x (eqb-true x.1.1 0 holds.1.1.1.0))

-- ---- what a record keeps

-- a record of the procedure of a number: its sites are that procedure's, ascend, and give each variable its place
record IsKept (n : ℕ) (r : ProcedureRecord) : Type 0 where
  own : AreOf n r.sites
  rising : Rising None r.sites
  places : places_among (length r.row.variables) r.sites ≡ r.places

abbrev Kept : ℕ → List ProcedureRecord → Type 0
Kept n [] = Unit {0}
Kept n (r ∷ rs) = IsKept n r × Kept (suc n) rs

abbrev pub AllUnder : List VariablePlace → List SiteRow → Type 0
AllUnder places [] = Unit {0}
AllUnder places (s ∷ ss) = Under places s.variables × AllUnder places ss

with_under : (places known : List VariablePlace) (ss : List SiteRow) → Under places known → AllUnder places ss → Under places (places_with known ss)
with_under places known [] under all = under
with_under places known (s ∷ ss) under all = with_under places (or_places known s.variables) ss (ors-under places known s.variables under all.0) all.1

among_under : (places : List VariablePlace) (ss : List SiteRow) → AllUnder places ss → Under places (places_among (length places) ss)
among_under places ss all = with_under places (replicate (length places) Dead) ss (dead-under places) all

module _ (code_length : ℕ) (before : List ProcedureRecord) (places : List VariablePlace) (continuations : ℕ) where
  abbrev pub AreSites : Option SiteRow → List SiteRow → Type 0
  AreSites previous ss = AreRows (λ previous. (live_site code_length (length before) (addresses_of before) places continuations previous).Holds) previous ss

  pub are_own : (previous : Option SiteRow) (ss : List SiteRow) → AreSites previous ss → AreOf (length before) ss
  are_own previous [] rows = tt
  are_own previous (s ∷ ss) rows = (rows.0.1.0, are_own (Some s) ss rows.1)

  pub are_rising : (previous : Option SiteRow) (ss : List SiteRow) → AreSites previous ss → Rising (option_map (λ s. s.return_address) previous) ss
  are_rising previous [] rows = tt
  are_rising previous (s ∷ ss) rows = (rows.0.0.1.0, are_rising (Some s) ss rows.1)

  pub are_under : (previous : Option SiteRow) (ss : List SiteRow) → AreSites previous ss → AllUnder places ss
  are_under previous [] rows = tt
  are_under previous (s ∷ ss) rows = (live-under places s.variables rows.0.1.1.1.1.1.1.1.1.1.0, are_under (Some s) ss rows.1)

is_kept : (code_length procedures total : ℕ) (before : List ProcedureRecord) (r : ProcedureRecord) → (procedure_record code_length procedures total before).Holds r →
    IsKept (length before) r
is_kept code_length procedures total before r holds =
    let vs = map placed (zip r.row.variables r.places) in
    let rows = holds.0.1.0.1 in
    let count = length r.row.continuations in
    let all = are_under code_length before (row_places vs) count None r.sites rows in
    let counted : length (row_places vs) ≡ length vs = length-map vs (λ v. v.place) in
    let under = among_under (row_places vs) r.sites all in
    let there : IsTrue (are_among (row_places vs) (places_among (length (row_places vs)) r.sites)) = holds.0.1.1.1.1.0 in
    let found = all_same (row_places vs) (places_among (length (row_places vs)) r.sites) under there in
    let long : length (row_places vs) ≡ length r.row.variables = counted ∙ sym (length-map vs (λ v. v.row)) ∙ ap (λ (x : ProcedureRecord). length x.row.variables) holds.1 in
    record {
      own = are_own code_length before (row_places vs) count None r.sites rows;
      rising = are_rising code_length before (row_places vs) count None r.sites rows;
      places = sym (ap (λ (n : ℕ). places_among n r.sites) long) ∙ found ∙ ap (λ (x : ProcedureRecord). x.places) holds.1;
    }

all_kept : (code_length procedures total : ℕ) (before rs : List ProcedureRecord) →
    AreRowsBehind (λ before. (procedure_record code_length procedures total before).Holds) before rs → Kept (length before) rs
all_kept code_length procedures total before [] rows = tt
all_kept code_length procedures total before (r ∷ rs) rows =
    let count : length (before ++ (r ∷ [])) ≡ suc (length before) = omega (arith, length-append before (r ∷ [])) in (
      is_kept code_length procedures total before r rows.0,
      subst (λ (n : ℕ). Kept n rs) count (all_kept code_length procedures total (before ++ (r ∷ [])) rs rows.1),
    )

-- ---- all records

-- what is of an earlier procedure is not of a later one
later_none : (k n : ℕ) (rs : List ProcedureRecord) → k < n → Kept n rs → sites_of k (flat_map (λ r. r.sites) rs) ≡ []
later_none k n [] less kept = refl
later_none k n (r ∷ rs) less kept =
    filter-append (λ s. s.procedure == k) r.sites (flat_map (λ r. r.sites) rs)
    ∙ ap (λ (t : List SiteRow). t ++ sites_of k (flat_map (λ r. r.sites) rs)) (others_none k n r.sites less kept.0.own)
    ∙ later_none k (suc n) rs (omega (arith, less)) kept.1
  where
    others_none : (k n : ℕ) (ss : List SiteRow) → k < n → AreOf n ss → sites_of k ss ≡ []
    others_none k n [] less are = refl
    others_none k n (s ∷ ss) less are =
        let other : (s.procedure == k) ≡ false = (let e = are.0 in grind (arith, e, less)) in
        rw other (others_none k n ss less are.1)

back_from : (n : ℕ) (rs : List ProcedureRecord) (sites : List SiteRow) → Kept n rs →
    ((k : ℕ) → n ≤ k → sites_of k sites ≡ sites_of k (flat_map (λ r. r.sites) rs)) → records_from n (map (λ r. r.row) rs) (in_order sites) ≡ rs
back_from n [] sites kept same = refl
back_from n (r ∷ rs) sites kept same =
    let rest = flat_map (λ r. r.sites) rs in
    let here : sites_of n (in_order sites) ≡ r.sites =
    order_kept (λ s. s.procedure == n) sites
    ∙ ap in_order (same n (omega arith) ∙ filter-append (λ s. s.procedure == n) r.sites rest
    ∙ ap (λ (t : List SiteRow). t ++ sites_of n rest) (own_sites n r.sites kept.0.own)
    ∙ ap (λ (t : List SiteRow). r.sites ++ t) (later_none n (suc n) rs (omega arith) kept.1)
    ∙ append-nil r.sites)
    ∙ order_rising None r.sites kept.0.rising in
    let others = back_from (suc n) rs sites kept.1
    (λ k less. same k (omega (arith, less)) ∙ filter-append (λ s. s.procedure == k) r.sites rest
    ∙ ap (λ (t : List SiteRow). t ++ sites_of k rest) (other_sites n k r.sites (omega (arith, less)) kept.0.own)) in
    joined (sites_of n (in_order sites)) here others
  where
    joined : (own : List SiteRow) → own ≡ r.sites → records_from (suc n) (map (λ r. r.row) rs) (in_order sites) ≡ rs →
        record { row = r.row; places = places_among (length r.row.variables) own; sites = own } ∷ records_from (suc n) (map (λ r. r.row) rs) (in_order sites) ≡ r ∷ rs
    joined own e others = rw (e, kept.0.places, others) refl

pub second-exact : (code_length procedures sites : ℕ) → IsExact (second_tables code_length procedures sites)
second-exact code_length procedures sites = seen-exact tables_of records_of
    (behind-exact {each = procedure_record code_length procedures sites} (record-exact code_length procedures sites) (λ before r. refl) procedures)
    (λ rs holds. back_from 0 rs (flat_map (λ r. r.sites) rs) (all_kept code_length procedures sites [] rs holds.1) (λ k low. refl))
