-- What version 2's tables keep, version 1's keep: the conditions of all fields.
use Rattle.std.proofs.Common.{◌≡◌, ℕ, suc, ◌+◌, ◌<◌, ◌≤◌, ◌==◌, ◌||◌, ◌^◌, Bool, true, false, not, IsTrue, nat_eq, nat_le, List, [], ◌∷◌, ◌++◌, length, map, flat_map, Option, Some, None, refl, sym, ap, subst, ◌∙◌, append_assoc, arith, inl, inr}
use Rattle.std.specs.List.{zip}
use Rattle.std.specs.Option.{option_map}
use Rattle.std.proofs.lemmas.Bool.{eq-eqb, eqb-true}
use Rattle.std.proofs.lemmas.Bool.Decides.{nat_tests}
use Rattle.std.proofs.lemmas.List.{append-nil, length-append, length-map}
use Rattle.cmm_format.specs.Formats.{AreRows, AreRowsBehind}
use Rattle.cmm_image.specs.declared.procedure_record.PlacedVariable.{PlacedVariable}
use Rattle.cmm_image.specs.declared.procedure_record.ProcedureRecord.{ProcedureRecord}
use Rattle.cmm_image.specs.declared.rows.ProcRow.{ProcRow}
use Rattle.cmm_image.specs.declared.rows.SiteRow.{SiteRow}
use Rattle.cmm_image.specs.declared.rows.VariableRow.{VariableRow}
use Rattle.cmm_image.specs.declared.rows.VariablePlace.{VariablePlace}
use Rattle.cmm_image.specs.ImageFormat.{Tables, continuation, first_tables, may_have_sites, procedure, procedure_at, procedure_with, site, site_lists_in, variable}
use Rattle.cmm_image.specs.Places.{IsPlace, variable_place}
use Rattle.cmm_image.specs.SecondFormat.{addresses_of, in_order, last_code, live_site, placed, placed_variable, procedure_record, record_fields, record_of, records_of, row_places, second_tables, tables_of}
use Rattle.cmm_image.specs.inside.Records.{Distinct}
use Rattle.cmm_image.proofs.DistinctLaws.{Across, Each, distinct_append, each_append, order_each, order_length, order_rises, rising_distinct, unlike_apart}
use Rattle.cmm_image.proofs.MaskLaws.{Under, live-under, under-length}
use Rattle.cmm_image.proofs.OrderLaws.{Rising}
use Rattle.cmm_image.proofs.SecondLaws.{are_rising}

-- ---- procedures

rows_of : (frame : ℕ) (previous : Option PlacedVariable) (before : Option VariableRow) (vs : List PlacedVariable) →
    AreRows (λ previous. (placed_variable frame previous).Holds) previous vs → AreRows (λ previous. (variable previous).Holds) before (map (λ v. v.row) vs)
rows_of frame previous before [] rows = tt
rows_of frame previous before (v ∷ vs) rows = (rows.0.0, rows_of frame (Some v) (Some v.row) vs rows.1)

places_of_rows : (frame : ℕ) (previous : Option PlacedVariable) (before : Option VariablePlace) (vs : List PlacedVariable) →
    AreRows (λ previous. (placed_variable frame previous).Holds) previous vs → AreRows (λ previous. (variable_place frame previous).Holds) before (row_places vs)
places_of_rows frame previous before [] rows = tt
places_of_rows frame previous before (v ∷ vs) rows = (rows.0.1, places_of_rows frame (Some v) (Some v.place) vs rows.1)

row_holds : (code_length : ℕ) (previous : Option ProcRow) (before : List ProcedureRecord) (r : ProcedureRecord) → last_code before ≡ option_map (λ p. p.code) previous →
    (procedure_with placed_variable code_length (last_code before)).Holds (record_fields r).0 → record_of (record_fields r) ≡ r → (procedure code_length previous).Holds r.row
row_holds code_length previous before r same h back =
    let vs = map placed (zip r.row.variables r.places) in
    let count : length (map (λ v. v.row) vs) ≡ length vs = length-map vs (λ v. v.row) in
    let g : (procedure_with placed_variable code_length (option_map (λ p. p.code) previous)).Holds (record_fields r).0 =
    subst (λ (o : Option ℕ). (procedure_with placed_variable code_length o).Holds (record_fields r).0) same h in
    let variables : ((length (map (λ v. v.row) vs) < 256 ^ 2) × (IsTrue (nat_le (length (map (λ v. v.row) vs)) 1024) × Unit {0}))
    × AreRows (λ previous. (variable previous).Holds) None (map (λ v. v.row) vs) =
    (subst (λ (n : ℕ). (n < 256 ^ 2) × (IsTrue (nat_le n 1024) × Unit {0})) (sym count) g.1.1.1.1.1.0.0, rows_of r.row.frame None None vs g.1.1.1.1.1.0.1) in
    let continuations = subst (λ (n : ℕ). (length r.row.continuations < 256 ^ 2) × AreRows (λ previous. (continuation code_length r.row.frame n previous).Holds) None r.row.continuations)
    (sym count) g.1.1.1.1.1.1.1 in
    let made : (procedure code_length previous).Holds (record_of (record_fields r)).row =
    (g.0, (g.1.0, (g.1.1.0, (g.1.1.1.0, (g.1.1.1.1.0, (variables, (g.1.1.1.1.1.1.0, continuations))))))) in
    subst (λ (x : ProcedureRecord). (procedure code_length previous).Holds x.row) back made

pub last_behind : (before : List ProcedureRecord) (r : ProcedureRecord) → last_code (before ++ (r ∷ [])) ≡ Some r.row.code
last_behind [] r = refl
last_behind (b ∷ []) r = refl
last_behind (b ∷ c ∷ bs) r = last_behind (c ∷ bs) r

all_rows : (code_length procedures total : ℕ) (previous : Option ProcRow) (before rs : List ProcedureRecord) → last_code before ≡ option_map (λ p. p.code) previous →
    AreRowsBehind (λ before. (procedure_record code_length procedures total before).Holds) before rs →
    AreRows (λ previous. (procedure code_length previous).Holds) previous (map (λ r. r.row) rs)
all_rows code_length procedures total previous before [] same rows = tt
all_rows code_length procedures total previous before (r ∷ rs) same rows = (
  row_holds code_length previous before r same rows.0.0.0 rows.0.1,
  all_rows code_length procedures total (Some r.row) (before ++ (r ∷ [])) rs (last_behind before r) rows.1,
)

-- ---- sites

under_fits : (frame : ℕ) (b c : Option VariablePlace) (ps qs : List VariablePlace) → Under ps qs → AreRows (λ previous. (variable_place frame previous).Holds) b ps →
    AreRows (λ previous. (variable_place frame previous).Holds) c qs
under_fits frame b c [] [] under rows = tt
under_fits frame b c [] (q ∷ qs) under rows = absurd under
under_fits frame b c (p ∷ ps) [] under rows = absurd under
under_fits frame b c (p ∷ ps) (q ∷ qs) under rows =
    (elim under.0 [ inl dead ↦ subst (IsPlace frame) (sym dead) tt | inr same ↦ subst (IsPlace frame) (sym same) rows.0 ], under_fits frame (Some p) (Some q) ps qs under.1 rows.1)

-- a site of the procedure of a number, which has this row
one_fits : (code_length : ℕ) (procs : List ProcRow) (before : List ProcedureRecord) (places : List VariablePlace) (p : ProcRow) (previous : Option SiteRow) (s : SiteRow) →
    length before < 256 ^ 4 → procedure_at procs (length before) ≡ p → IsTrue (may_have_sites p.frame p.return_at) → length places ≡ length p.variables →
    AreRows (λ previous. (variable_place p.frame previous).Holds) None places → (live_site code_length (length before) (addresses_of before) places (length p.continuations) previous).Holds s →
    (site code_length procs None).Holds s
one_fits code_length procs before places p previous s few at may count there h =
    let is : procedure_at procs s.procedure ≡ p = ap (procedure_at procs) h.1.0 ∙ at in
    let l = h.1.1.1.1.1.1 in
    let under = live-under places s.variables l.1.1.1.0 in
    let long : length s.variables ≡ length p.variables = under-length places s.variables under ∙ count in
    let lists = subst (λ (q : ProcRow). (site_lists_in code_length q s.return_address).Holds (s.returns, (s.unwinds, (s.cuts, (s.variables, s.spans))))) (sym is)
    (l.0, (l.1.0, (l.1.1.0, ((long, under_fits p.frame None None places s.variables under there), l.1.1.1.1)))) in
    let has = subst (λ (q : ProcRow). IsTrue (may_have_sites q.frame q.return_at)) (sym is) may in
    let small : s.procedure < 256 ^ 4 = subst (λ (n : ℕ). n < 256 ^ 4) (sym h.1.0) few in
    ((h.0.0, (refl, h.0.1.1.1)), ((small, (has, tt)), (h.1.1.0, (h.1.1.1.0, (h.1.1.1.1.0, (h.1.1.1.1.1.0, lists))))))

module _ (code_length : ℕ) (procs : List ProcRow) where
  abbrev Fits : SiteRow → Type 0
  Fits s = (site code_length procs None).Holds s

  each_fits : (before : List ProcedureRecord) (places : List VariablePlace) (p : ProcRow) (previous : Option SiteRow) (ss : List SiteRow) →
      length before < 256 ^ 4 → procedure_at procs (length before) ≡ p → IsTrue (may_have_sites p.frame p.return_at) → length places ≡ length p.variables →
      AreRows (λ previous. (variable_place p.frame previous).Holds) None places →
      AreRows (λ previous. (live_site code_length (length before) (addresses_of before) places (length p.continuations) previous).Holds) previous ss → Each Fits ss
  each_fits before places p previous [] few at may count there rows = tt
  each_fits before places p previous (s ∷ ss) few at may count there rows = (
    one_fits code_length procs before places p previous s few at may count there rows.0,
    each_fits before places p (Some s) ss few at may count there rows.1,
  )

  -- sites that are counted, of a procedure that may have them or has none
  some_fit : (before : List ProcedureRecord) (places : List VariablePlace) (p : ProcRow) (ss : List SiteRow) →
      length before < 256 ^ 4 → procedure_at procs (length before) ≡ p → IsTrue ((length ss == 0) || may_have_sites p.frame p.return_at) → length places ≡ length p.variables →
      AreRows (λ previous. (variable_place p.frame previous).Holds) None places →
      AreRows (λ previous. (live_site code_length (length before) (addresses_of before) places (length p.continuations) previous).Holds) None ss → Each Fits ss
  some_fit before places p [] few at may count there rows = tt
  some_fit before places p (s ∷ ss) few at may count there rows =
      let some : nat_eq (suc (length ss)) 0 ≡ false = grind (arith, nat_tests) in
      let has : IsTrue (may_have_sites p.frame p.return_at) = rw some at may in
      each_fits before places p None (s ∷ ss) few at has count there rows

  as_rows : (previous : Option SiteRow) (ss : List SiteRow) → Rising (option_map (λ s. s.return_address) previous) ss → Each Fits ss →
      AreRows (λ previous. (site code_length procs previous).Holds) previous ss
  as_rows previous [] rises all = tt
  as_rows previous (s ∷ ss) rises all = (((all.0.0.0, (rises.0, all.0.0.1.1)), all.0.1), as_rows (Some s) ss rises.1 all.1)

-- ---- the sites of all records

row_there : (before rs : List ProcedureRecord) (r : ProcedureRecord) → procedure_at (map (λ r. r.row) (before ++ (r ∷ rs))) (length before) ≡ r.row
row_there [] rs r = refl
row_there (b ∷ bs) rs r = row_there bs rs r

all_fit : (code_length procedures total : ℕ) (before rs : List ProcedureRecord) (all : List ProcedureRecord) → before ++ rs ≡ all → length all ≤ 65535 →
    AreRowsBehind (λ before. (procedure_record code_length procedures total before).Holds) before rs →
    Each (Fits code_length (map (λ r. r.row) all)) (flat_map (λ r. r.sites) rs)
all_fit code_length procedures total before [] all same few rows = tt
all_fit code_length procedures total before (r ∷ rs) all same few rows =
    let holds = rows.0 in
    let vs = map placed (zip r.row.variables r.places) in
    let at : procedure_at (map (λ r. r.row) all) (length before) ≡ r.row =
    subst (λ (xs : List ProcedureRecord). procedure_at (map (λ r. r.row) xs) (length before) ≡ r.row) same (row_there before rs r) in
    let low : length before < 256 ^ 4 = omega (arith, length-append before (r ∷ rs), ap length same, few) in
    let long : length (row_places vs) ≡ length r.row.variables =
    length-map vs (λ v. v.place) ∙ sym (length-map vs (λ v. v.row)) ∙ ap (λ (x : ProcedureRecord). length x.row.variables) holds.1 in
    let places = places_of_rows r.row.frame None None vs holds.0.0.1.1.1.1.1.0.1 in
    let here = some_fit code_length (map (λ r. r.row) all) before (row_places vs) r.row r.sites low at holds.0.1.0.0.1.0 long places holds.0.1.0.1 in
    let rest = all_fit code_length procedures total (before ++ (r ∷ [])) rs all (append_assoc before (r ∷ []) rs ∙ same) few rows.1 in
    each_append (Fits code_length (map (λ r. r.row) all)) r.sites (flat_map (λ r. r.sites) rs) here rest

sites_append : (xs ys : List ProcedureRecord) → flat_map (λ r. r.sites) (xs ++ ys) ≡ flat_map (λ r. r.sites) xs ++ flat_map (λ r. r.sites) ys
sites_append [] ys = refl
sites_append (x ∷ xs) ys = ap (λ (t : List SiteRow). x.sites ++ t) (sites_append xs ys) ∙ sym (append_assoc x.sites (flat_map (λ r. r.sites) xs) (flat_map (λ r. r.sites) ys))

pub sites_behind : (before : List ProcedureRecord) (r : ProcedureRecord) → flat_map (λ r. r.sites) (before ++ (r ∷ [])) ≡ flat_map (λ r. r.sites) before ++ r.sites
sites_behind before r = sites_append before (r ∷ []) ∙ ap (λ (t : List SiteRow). flat_map (λ r. r.sites) before ++ t) (append-nil r.sites)

are_apart : (code_length : ℕ) (before : List ProcedureRecord) (places : List VariablePlace) (continuations : ℕ) (previous : Option SiteRow) (ss : List SiteRow) →
    AreRows (λ previous. (live_site code_length (length before) (addresses_of before) places continuations previous).Holds) previous ss → Across (flat_map (λ r. r.sites) before) ss
are_apart code_length before places continuations previous [] rows = tt
are_apart code_length before places continuations previous (s ∷ ss) rows = (
  unlike_apart s.return_address (flat_map (λ r. r.sites) before) rows.0.0.1.1.0,
  are_apart code_length before places continuations (Some s) ss rows.1,
)

pub all_distinct : (code_length procedures total : ℕ) (before rs : List ProcedureRecord) → Distinct (flat_map (λ r. r.sites) before) →
    AreRowsBehind (λ before. (procedure_record code_length procedures total before).Holds) before rs → Distinct (flat_map (λ r. r.sites) (before ++ rs))
all_distinct code_length procedures total before [] distinct rows = subst (λ (xs : List ProcedureRecord). Distinct (flat_map (λ r. r.sites) xs)) (sym (append-nil before)) distinct
all_distinct code_length procedures total before (r ∷ rs) distinct rows =
    let vs = map placed (zip r.row.variables r.places) in
    let count = length r.row.continuations in
    let sites = rows.0.0.1.0.1 in
    let own = rising_distinct None r.sites (are_rising code_length before (row_places vs) count None r.sites sites) in
    let across = are_apart code_length before (row_places vs) count None r.sites sites in
    let both = distinct_append (flat_map (λ r. r.sites) before) r.sites distinct own across in
    subst (λ (xs : List ProcedureRecord). Distinct (flat_map (λ r. r.sites) xs)) (append_assoc before (r ∷ []) rs)
    (all_distinct code_length procedures total (before ++ (r ∷ [])) rs (subst Distinct (sym (sites_behind before r)) both) rows.1)

-- ---- their count

addresses_count : (rs : List ProcedureRecord) → length (addresses_of rs) ≡ length (flat_map (λ r. r.sites) rs)
addresses_count rs = length-map (flat_map (λ r. r.sites) rs) (λ s. s.return_address)

counted_last : (procedures total n : ℕ) → suc n ≡ procedures → (b : Bool) → IsTrue (not (suc n == procedures) || b) → b ≡ true
counted_last procedures total n is true h = refl
counted_last procedures total n is false h =
    let same : (suc n == procedures) ≡ true = eq-eqb (suc n) procedures is in
    let g : false ≡ true = rw same at h in
    absurd cc

total_is : (code_length procedures total : ℕ) (before : List ProcedureRecord) (r : ProcedureRecord) (rs : List ProcedureRecord) →
    length (before ++ (r ∷ rs)) ≡ procedures → AreRowsBehind (λ before. (procedure_record code_length procedures total before).Holds) before (r ∷ rs) →
    length (flat_map (λ r. r.sites) (before ++ (r ∷ rs))) ≡ total
total_is code_length procedures total before r [] count rows =
    let last : suc (length before) ≡ procedures = omega (arith, length-append before (r ∷ []), count) in
    let test = counted_last procedures total (length before) last (length (addresses_of before) + length r.sites == total) rows.0.0.1.1.1.1.1.0 in
    let sum : length (addresses_of before) + length r.sites ≡ total = eqb-true (length (addresses_of before) + length r.sites) total test in
    ap length (sites_behind before r) ∙ length-append (flat_map (λ r. r.sites) before) r.sites ∙ ap (λ (n : ℕ). n + length r.sites) (sym (addresses_count before)) ∙ sum
total_is code_length procedures total before r (q ∷ rs) count rows =
    let joined = append_assoc before (r ∷ []) (q ∷ rs) in
    subst (λ (xs : List ProcedureRecord). length (flat_map (λ r. r.sites) xs) ≡ total) joined
    (total_is code_length procedures total (before ++ (r ∷ [])) q rs (ap length joined ∙ count) rows.1)

-- ---- the tables

tables_hold : (code_length procedures total : ℕ) (rs : List ProcedureRecord) → 1 ≤ procedures → procedures ≤ 65535 → length rs ≡ procedures →
    AreRowsBehind (λ before. (procedure_record code_length procedures total before).Holds) [] rs → (first_tables code_length procedures total).Holds (tables_of rs)
tables_hold code_length procedures total [] some few count rows = absurd (omega (arith, some, count))
tables_hold code_length procedures total (r ∷ rs) some few count rows =
    let sites = flat_map (λ r. r.sites) (r ∷ rs) in
    let procs = map (λ r. r.row) (r ∷ rs) in
    let all = all_fit code_length procedures total [] (r ∷ rs) (r ∷ rs) refl (omega (arith, few, count)) rows in
    let rises = order_rises sites (all_distinct code_length procedures total [] (r ∷ rs) tt rows) in (
      (length-map (r ∷ rs) (λ r. r.row) ∙ count, all_rows code_length procedures total None [] (r ∷ rs) refl rows),
      (
        order_length sites ∙ total_is code_length procedures total [] r rs count rows,
        as_rows code_length procs None (in_order sites) rises (order_each (Fits code_length procs) sites all),
      ),
    )

-- what the tables of version 2 keep, those of version 1 keep
pub second_keeps_first : (code_length procedures sites : ℕ) (t : Tables) → 1 ≤ procedures → procedures ≤ 65535 → (second_tables code_length procedures sites).Holds t →
    (first_tables code_length procedures sites).Holds t
second_keeps_first code_length procedures sites t some few holds =
    subst (λ (u : Tables). (first_tables code_length procedures sites).Holds u) holds.1
    (tables_hold code_length procedures sites (records_of t) some few holds.0.0 holds.0.1)
