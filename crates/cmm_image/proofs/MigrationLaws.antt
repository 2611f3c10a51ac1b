-- What version 1's tables keep, version 2's keep where each variable has one place in its procedure.
use Rattle.std.proofs.Common.{◌≡◌, ℕ, zero, suc, ◌+◌, ◌<◌, ◌≤◌, ◌==◌, ◌||◌, ◌^◌, Bool, true, false, not, IsTrue, nat_eq, nat_le, nat_lt, List, [], ◌∷◌, ◌++◌, length, map, filter, flat_map, replicate, Option, Some, None, refl, sym, ap, subst, ◌∙◌, append_assoc, arith}
use Rattle.std.specs.List.{list_any, zip}
use Rattle.std.specs.Option.{option_map}
use Rattle.std.proofs.lemmas.Bool.{eq-eqb, eqb-true, or_right}
use Rattle.std.proofs.lemmas.Bool.Decides.{nat_tests}
use Rattle.std.proofs.lemmas.List.{length-append, length-map}
use Rattle.cmm_format.specs.Formats.{AreRows, AreRowsBehind}
use Rattle.cmm_image.specs.declared.procedure_record.PlacedVariable.{PlacedVariable}
use Rattle.cmm_image.specs.declared.procedure_record.ProcedureRecord.{ProcedureRecord}
use Rattle.cmm_image.specs.declared.rows.ProcRow.{ProcRow}
use Rattle.cmm_image.specs.declared.rows.SiteRow.{SiteRow}
use Rattle.cmm_image.specs.declared.rows.VariableRow.{VariableRow}
use Rattle.cmm_image.specs.declared.rows.VariablePlace.{VariablePlace}
use Rattle.cmm_image.specs.declared.rows.VariablePlace.TheVariants.{Dead, Slot, Register}
use Rattle.cmm_image.specs.ImageFormat.{Tables, continuation, first_tables, has_sites, is_above, may_have_sites, procedure, procedure_at, procedure_with, site, site_lists_in, variable}
use Rattle.cmm_image.specs.Migration.{HaveOnePlace}
use Rattle.cmm_image.specs.Places.{IsPlace, variable_place}
use Rattle.cmm_image.specs.SecondFormat.{addresses_of, are_among, is_total, is_unlike, last_code, live_site, or_place, or_places, placed, placed_variable, places_among, places_with, procedure_record, record_fields, record_of, records_from, records_of, row_places, second_tables, sites_of, tables_of}
use Rattle.cmm_image.proofs.AgreeLaws.{AllStay, all_stay, all_stay_kept, all_under, among_long, among_same, are_of, each_kept}
use Rattle.cmm_image.proofs.BitLaws.{live_places_hold}
use Rattle.cmm_image.specs.inside.Records.{Apart}
use Rattle.cmm_image.proofs.DistinctLaws.{Across, Each, apart_append, order_length}
use Rattle.cmm_image.proofs.FirstLaws.{last_behind, sites_behind}
use Rattle.cmm_image.proofs.JoinLaws.{joined_again, rising_over, rows_again}
use Rattle.cmm_image.proofs.MaskLaws.{Under}
use Rattle.cmm_image.proofs.OrderLaws.{AreOf, Over, Rising, over_kept}

-- ---- places in a frame

abbrev Lie : ℕ → List VariablePlace → Type 0
Lie frame [] = Unit {0}
Lie frame (p ∷ ps) = IsPlace frame p × Lie frame ps

rows_lie : (frame : ℕ) (previous : Option VariablePlace) (ps : List VariablePlace) → AreRows (λ previous. (variable_place frame previous).Holds) previous ps → Lie frame ps
rows_lie frame previous [] rows = tt
rows_lie frame previous (p ∷ ps) rows = (rows.0, rows_lie frame (Some p) ps rows.1)

or_lies : (frame : ℕ) (p q : VariablePlace) → IsPlace frame p → IsPlace frame q → IsPlace frame (or_place p q)
or_lies frame Dead q one more = more
or_lies frame (Slot offset) q one more = one
or_lies frame (Register register) q one more = one

ors_lie : (frame : ℕ) (ps qs : List VariablePlace) → Lie frame ps → Lie frame qs → Lie frame (or_places ps qs)
ors_lie frame [] qs one more = more
ors_lie frame (p ∷ ps) [] one more = one
ors_lie frame (p ∷ ps) (q ∷ qs) one more = (or_lies frame p q one.0 more.0, ors_lie frame ps qs one.1 more.1)

dead_lie : (frame n : ℕ) → Lie frame (replicate n Dead)
dead_lie frame zero = tt
dead_lie frame (suc n) = (tt, dead_lie frame n)

with_lie : (frame : ℕ) (places : List VariablePlace) (ss : List SiteRow) → Lie frame places → Each (λ s. Lie frame s.variables) ss → Lie frame (places_with places ss)
with_lie frame places [] lie all = lie
with_lie frame places (s ∷ ss) lie all = with_lie frame (or_places places s.variables) ss (ors_lie frame places s.variables lie all.0) all.1

among_lie : (frame count : ℕ) (ss : List SiteRow) → Each (λ s. Lie frame s.variables) ss → Lie frame (places_among count ss)
among_lie frame count ss all = with_lie frame (replicate count Dead) ss (dead_lie frame count) all

-- ---- variables with their places

zipped_rows : (vs : List VariableRow) (ps : List VariablePlace) → length ps ≡ length vs → map (λ v. v.row) (map placed (zip vs ps)) ≡ vs
zipped_rows [] ps long = refl
zipped_rows (v ∷ vs) [] long = absurd (omega (arith, long))
zipped_rows (v ∷ vs) (p ∷ ps) long = ap (λ (t : List VariableRow). v ∷ t) (zipped_rows vs ps (omega (arith, long)))

zipped_places : (vs : List VariableRow) (ps : List VariablePlace) → length ps ≡ length vs → map (λ v. v.place) (map placed (zip vs ps)) ≡ ps
zipped_places [] [] long = refl
zipped_places [] (p ∷ ps) long = absurd (omega (arith, long))
zipped_places (v ∷ vs) [] long = absurd (omega (arith, long))
zipped_places (v ∷ vs) (p ∷ ps) long = ap (λ (t : List VariablePlace). p ∷ t) (zipped_places vs ps (omega (arith, long)))

placed_rows : (frame : ℕ) (previous : Option PlacedVariable) (before : Option VariableRow) (vs : List VariableRow) (ps : List VariablePlace) →
    AreRows (λ previous. (variable previous).Holds) before vs → Lie frame ps → AreRows (λ previous. (placed_variable frame previous).Holds) previous (map placed (zip vs ps))
placed_rows frame previous before [] ps rows lie = tt
placed_rows frame previous before (v ∷ vs) [] rows lie = tt
placed_rows frame previous before (v ∷ vs) (p ∷ ps) rows lie = ((rows.0, lie.0), placed_rows frame (Some (placed (v, p))) (Some v) vs ps rows.1 lie.1)

-- ---- some of sites that ascend

above_more : (o : Option ℕ) (a b : ℕ) → IsTrue (is_above o a) → nat_lt a b ≡ true → IsTrue (is_above o b)
above_more None a b above up = refl
above_more (Some m) a b above up = grind (arith, nat_tests, above, up)

rising_lower : (o : Option ℕ) (a : ℕ) (ss : List SiteRow) → IsTrue (is_above o a) → Rising (Some a) ss → Rising o ss
rising_lower o a [] above rises = tt
rising_lower o a (s ∷ ss) above rises = (above_more o a s.return_address above rises.0, rises.1)

rising_kept : (keeps : SiteRow → Bool) (previous : Option ℕ) (ss : List SiteRow) → Rising previous ss → Rising previous (filter keeps ss)
rising_kept keeps previous [] rises = tt
rising_kept keeps previous (s ∷ ss) rises = by (keeps s) refl (rising_kept keeps (Some s.return_address) ss rises.1)
  where
    by : (b : Bool) → keeps s ≡ b → Rising (Some s.return_address) (filter keeps ss) → Rising previous (filter keeps (s ∷ ss))
    by true e rest = rw e (rises.0, rest)
    by false e rest = rw e (rising_lower previous s.return_address (filter keeps ss) rises.0 rest)

kept_few : (keeps : SiteRow → Bool) (ss : List SiteRow) → length (filter keeps ss) ≤ length ss
kept_few keeps [] = omega arith
kept_few keeps (s ∷ ss) = by (keeps s) refl (kept_few keeps ss)
  where
    by : (b : Bool) → keeps s ≡ b → length (filter keeps ss) ≤ length ss → length (filter keeps (s ∷ ss)) ≤ length (s ∷ ss)
    by true e rest = rw e (omega (arith, rest))
    by false e rest = rw e (omega (arith, rest))

over_apart : (a : ℕ) (ss : List SiteRow) → Over a ss → Apart a ss
over_apart a [] over = tt
over_apart a (s ∷ ss) over =
    let differ : nat_eq a s.return_address ≡ false = (let up = over.0 in grind (arith, nat_tests, up)) in
    (differ, over_apart a ss over.1)

across_more : (x : SiteRow) (xs ys : List SiteRow) → Over x.return_address ys → Across xs ys → Across (x ∷ xs) ys
across_more x xs [] over across = tt
across_more x xs (y ∷ ys) over across =
    let differ : nat_eq y.return_address x.return_address ≡ false = (let up = over.0 in grind (arith, nat_tests, up)) in
    ((differ, across.0), across_more x xs ys over.1 across.1)

across_append : (xs ys zs : List SiteRow) → Across xs zs → Across ys zs → Across (xs ++ ys) zs
across_append xs ys [] one more = tt
across_append xs ys (z ∷ zs) one more = (apart_append z.return_address xs ys one.0 more.0, across_append xs ys zs one.1 more.1)

across_none : (ss : List SiteRow) → Across [] ss
across_none [] = tt
across_none (s ∷ ss) = (tt, across_none ss)

-- the sites of two procedures are apart
rising_across : (m n : ℕ) (previous : Option ℕ) (ss : List SiteRow) → m < n → Rising previous ss → Across (sites_of m ss) (sites_of n ss)
rising_across m n previous [] less rises = tt
rising_across m n previous (s ∷ ss) less rises =
    by (nat_eq s.procedure m) (nat_eq s.procedure n) refl refl (rising_over s.return_address s.return_address ss (omega arith) rises.1)
    (rising_across m n (Some s.return_address) ss less rises.1)
  where
    by : (b c : Bool) → nat_eq s.procedure m ≡ b → nat_eq s.procedure n ≡ c → Over s.return_address ss → Across (sites_of m ss) (sites_of n ss) →
        Across (sites_of m (s ∷ ss)) (sites_of n (s ∷ ss))
    by true true e f over rest = absurd (grind (arith, nat_tests, less, e, f))
    by true false e f over rest = rw (e, f) (across_more s (sites_of m ss) (sites_of n ss) (over_kept (λ s. nat_eq s.procedure n) s.return_address ss over) rest)
    by false true e f over rest = rw (e, f) (over_apart s.return_address (sites_of m ss) (over_kept (λ s. nat_eq s.procedure m) s.return_address ss over), rest)
    by false false e f over rest = rw (e, f) rest

apart_unlike : (a : ℕ) (ss : List SiteRow) → Apart a ss → list_any (λ other. nat_eq a other) (map (λ s. s.return_address) ss) ≡ false
apart_unlike a [] apart = refl
apart_unlike a (s ∷ ss) apart = rw (apart.0, apart_unlike a ss apart.1) refl

-- ---- what the sites of version 1 keep

has_below : (ps : List ProcRow) (n : ℕ) → IsTrue (has_sites ps n) → n < length ps
has_below [] n has = absurd cc
has_below (p ∷ ps) zero has = omega arith
has_below (p ∷ ps) (suc n) has = (let rest = has_below ps n has in omega (arith, rest))

module _ (code_length : ℕ) (procs : List ProcRow) where
  abbrev pub Fits : SiteRow → Type 0
  Fits s = (site code_length procs None).Holds s

  pub fits : (previous : Option SiteRow) (ss : List SiteRow) → AreRows (λ previous. (site code_length procs previous).Holds) previous ss → Each Fits ss
  fits previous [] rows = tt
  fits previous (s ∷ ss) rows = (((rows.0.0.0, (refl, rows.0.0.1.1)), rows.0.1), fits (Some s) ss rows.1)

  rising : (previous : Option SiteRow) (ss : List SiteRow) → AreRows (λ previous. (site code_length procs previous).Holds) previous ss →
      Rising (option_map (λ s. s.return_address) previous) ss
  rising previous [] rows = tt
  rising previous (s ∷ ss) rows = (rows.0.0.1.0, rising (Some s) ss rows.1)

  pub below : (ss : List SiteRow) → Each Fits ss → Each (λ s. s.procedure < length procs) ss
  below [] all = tt
  below (s ∷ ss) all = (has_below procs s.procedure all.0.1.0.1.0, below ss all.1)

  module _ (n : ℕ) (p : ProcRow) (at : procedure_at procs n ≡ p) where
    lists_there : (s : SiteRow) → Fits s → s.procedure ≡ n → (site_lists_in code_length p s.return_address).Holds (s.returns, (s.unwinds, (s.cuts, (s.variables, s.spans))))
    lists_there s h own =
        subst (λ (q : ProcRow). (site_lists_in code_length q s.return_address).Holds (s.returns, (s.unwinds, (s.cuts, (s.variables, s.spans)))))
        (ap (procedure_at procs) own ∙ at) h.1.1.1.1.1.1

    all_long : (ss : List SiteRow) → Each Fits ss → AreOf n ss → Each (λ s. length s.variables ≡ length p.variables) ss
    all_long [] all are = tt
    all_long (s ∷ ss) all are = ((lists_there s all.0 are.0).1.1.1.0.0, all_long ss all.1 are.1)

    all_lie : (ss : List SiteRow) → Each Fits ss → AreOf n ss → Each (λ s. Lie p.frame s.variables) ss
    all_lie [] all are = tt
    all_lie (s ∷ ss) all are = (rows_lie p.frame None s.variables (lists_there s all.0 are.0).1.1.1.0.1, all_lie ss all.1 are.1)

    may_have : (ss : List SiteRow) → Each Fits ss → AreOf n ss → IsTrue ((length ss == 0) || may_have_sites p.frame p.return_at)
    may_have [] all are = refl
    may_have (s ∷ ss) all are =
        let has = subst (λ (q : ProcRow). IsTrue (may_have_sites q.frame q.return_at)) (ap (procedure_at procs) are.0 ∙ at) all.0.1.0.1.0 in
        or_right (length (s ∷ ss) == 0) (may_have_sites p.frame p.return_at) has

    live_holds : (before : List ProcedureRecord) (places : List VariablePlace) (previous : Option SiteRow) (s : SiteRow) → Fits s → s.procedure ≡ n → Under places s.variables →
        IsTrue (is_above (option_map (λ s. s.return_address) previous) s.return_address) → Apart s.return_address (flat_map (λ r. r.sites) before) →
        (live_site code_length n (addresses_of before) places (length p.continuations) previous).Holds s
    live_holds before places previous s h own under above apart =
        let l = lists_there s h own in
        let unlike : IsTrue (is_unlike (addresses_of before) s.return_address) = rw (apart_unlike s.return_address (flat_map (λ r. r.sites) before) apart) refl in
        let bits = live_places_hold places s.variables under in
        ((h.0.0, (above, (unlike, h.0.1.1))), (own, (h.1.1.0, (h.1.1.1.0, (h.1.1.1.1.0, (h.1.1.1.1.1.0, (l.0, (l.1.0, (l.1.1.0, (bits, l.1.1.1.1))))))))))

    live_rows : (before : List ProcedureRecord) (places : List VariablePlace) (previous : Option SiteRow) (ss : List SiteRow) → Each Fits ss → AreOf n ss →
        Each (λ s. Under places s.variables) ss → Rising (option_map (λ s. s.return_address) previous) ss → Across (flat_map (λ r. r.sites) before) ss →
        AreRows (λ previous. (live_site code_length n (addresses_of before) places (length p.continuations) previous).Holds) previous ss
    live_rows before places previous [] all are under rises across = tt
    live_rows before places previous (s ∷ ss) all are under rises across = (
      live_holds before places previous s all.0 are.0 under.0 rises.0 across.0,
      live_rows before places (Some s) ss all.1 are.1 under.1 rises.1 across.1,
    )

-- ---- one record

record_holds : (code_length procedures total : ℕ) (before : List ProcedureRecord) (p : ProcRow) (previous : Option ProcRow) (places : List VariablePlace) (own : List SiteRow) →
    last_code before ≡ option_map (λ p. p.code) previous → (procedure code_length previous).Holds p → length places ≡ length p.variables → Lie p.frame places →
    length own < 256 ^ 4 → IsTrue ((length own == 0) || may_have_sites p.frame p.return_at) →
    AreRows (λ previous. (live_site code_length (length before) (addresses_of before) places (length p.continuations) previous).Holds) None own →
    places ≡ places_among (length p.variables) own → IsTrue (is_total procedures total before own) →
    (procedure_record code_length procedures total before).Holds (record { row = p; places = places; sites = own })
record_holds code_length procedures total before p previous places own same g long lie few may rows among whole =
    let vs = map placed (zip p.variables places) in
    let r : ProcedureRecord = record { row = p; places = places; sites = own } in
    let there : map (λ v. v.row) vs ≡ p.variables = zipped_rows p.variables places long in
    let back : row_places vs ≡ places = zipped_places p.variables places long in
    let count : length vs ≡ length p.variables = sym (length-map vs (λ v. v.row)) ∙ ap length there in
    let variables : ((length vs < 256 ^ 2) × (IsTrue (nat_le (length vs) 1024) × Unit {0})) × AreRows (λ previous. (placed_variable p.frame previous).Holds) None vs =
    (subst (λ (n : ℕ). (n < 256 ^ 2) × (IsTrue (nat_le n 1024) × Unit {0})) (sym count) g.1.1.1.1.1.0.0, placed_rows p.frame None None p.variables places g.1.1.1.1.1.0.1 lie) in
    let continuations = subst (λ (n : ℕ). (length p.continuations < 256 ^ 2) × AreRows (λ previous. (continuation code_length p.frame n previous).Holds) None p.continuations)
    (sym count) g.1.1.1.1.1.1.1 in
    let fields : (procedure_with placed_variable code_length (option_map (λ p. p.code) previous)).Holds (record_fields r).0 =
    (g.0, (g.1.0, (g.1.1.0, (g.1.1.1.0, (g.1.1.1.1.0, (variables, (g.1.1.1.1.1.1.0, continuations))))))) in
    let sites = subst (λ (ps : List VariablePlace). AreRows (λ previous. (live_site code_length (length before) (addresses_of before) ps (length p.continuations) previous).Holds) None own)
    (sym back) rows in
    let found : IsTrue (are_among (row_places vs) (places_among (length (row_places vs)) own)) = rw (back, long, sym among) (among_same places) in
    let small : 0 < 256 ^ 1 = omega arith in
    let again : record_of (record_fields r) ≡ r = rw (there, back) refl in (
      (
        subst (λ (o : Option ℕ). (procedure_with placed_variable code_length o).Holds (record_fields r).0) (sym same) fields,
        (((few, (may, tt)), sites), (small, (refl, (found, (whole, tt))))),
      ),
      again,
    )

-- ---- all records

row_at : (done ps : List ProcRow) (p : ProcRow) → procedure_at (done ++ (p ∷ ps)) (length done) ≡ p
row_at [] ps p = refl
row_at (d ∷ ds) ps p = row_at ds ps p

whole_or_not : (n procedures sum total : ℕ) → (n ≡ procedures → sum ≡ total) → IsTrue (not (n == procedures) || (sum == total))
whole_or_not n procedures sum total last = by (nat_eq n procedures) refl
  where
    by : (b : Bool) → nat_eq n procedures ≡ b → IsTrue (not (n == procedures) || (sum == total))
    by true e =
        let same : nat_eq sum total ≡ true = eq-eqb sum total (last (eqb-true n procedures e)) in
        rw (e, same) refl
    by false e = rw e refl

module _ (code_length procedures total : ℕ) (procs : List ProcRow) (sites : List SiteRow) (all : Each (λ s. (site code_length procs None).Holds s) sites) (stay : AllStay sites)
    (rises : Rising None sites) (few : length sites < 2 ^ 32) where
  one_record : (before : List ProcedureRecord) (p : ProcRow) (previous : Option ProcRow) → procedure_at procs (length before) ≡ p →
      last_code before ≡ option_map (λ p. p.code) previous → (procedure code_length previous).Holds p →
      Across (flat_map (λ r. r.sites) before) (sites_of (length before) sites) → IsTrue (is_total procedures total before (sites_of (length before) sites)) →
      (procedure_record code_length procedures total before).Holds (record {
        row = p;
        places = places_among (length p.variables) (sites_of (length before) sites);
        sites = sites_of (length before) sites;
      })
  one_record before p previous at same holds across whole =
      let n = length before in
      let own = sites_of n sites in
      let places = places_among (length p.variables) own in
      let are = are_of n sites in
      let mine = each_kept (λ s. (site code_length procs None).Holds s) (λ s. s.procedure == n) sites all in
      let long = all_long code_length procs n p at own mine are in
      let under = all_under n (length p.variables) own are long (all_stay_kept (λ s. s.procedure == n) sites stay) in
      let lie = among_lie p.frame (length p.variables) own (all_lie code_length procs n p at own mine are) in
      let rows = live_rows code_length procs n p at before places None own mine are under (rising_kept (λ s. s.procedure == n) None sites rises) across in
      let kept = kept_few (λ s. s.procedure == n) sites in
      record_holds code_length procedures total before p previous places own same holds (among_long (length p.variables) own long) lie (omega (arith, kept, few))
      (may_have code_length procs n p at own mine are) rows refl whole

  all_records : (before : List ProcedureRecord) (done ps : List ProcRow) (previous : Option ProcRow) → done ++ ps ≡ procs → length done ≡ length before →
      length before + length ps ≡ procedures → last_code before ≡ option_map (λ p. p.code) previous → AreRows (λ previous. (procedure code_length previous).Holds) previous ps →
      ((k : ℕ) → length before ≤ k → Across (flat_map (λ r. r.sites) before) (sites_of k sites)) →
      length (flat_map (λ r. r.sites) before) + length (flat_map (λ r. r.sites) (records_from (length before) ps sites)) ≡ total →
      AreRowsBehind (λ before. (procedure_record code_length procedures total before).Holds) before (records_from (length before) ps sites)
  all_records before done [] previous joined count left same rows across sum = tt
  all_records before done (p ∷ ps) previous joined count left same rows across sum =
      let n = length before in
      let own = sites_of n sites in
      let r : ProcedureRecord = record { row = p; places = places_among (length p.variables) own; sites = own } in
      let at : procedure_at procs n ≡ p = subst (λ (m : ℕ). procedure_at procs m ≡ p) count (subst (λ (qs : List ProcRow). procedure_at qs (length done) ≡ p) joined (row_at done ps p)) in
      let rest = flat_map (λ r. r.sites) (records_from (suc n) ps sites) in
      let apart = length-append own rest in
      let last : suc n ≡ procedures → length (addresses_of before) + length own ≡ total =
      λ is. (let none = no_more ps (omega (arith, left, is)) in omega (arith, none, sum, apart, length-map (flat_map (λ r. r.sites) before) (λ s. s.return_address))) in
      let whole = whole_or_not (suc n) procedures (length (addresses_of before) + length own) total last in
      let behind = sites_behind before r in
      let longer : length (before ++ (r ∷ [])) ≡ suc n = omega (arith, length-append before (r ∷ [])) in
      let longer_done : length (done ++ (p ∷ [])) ≡ length (before ++ (r ∷ [])) = omega (arith, length-append done (p ∷ []), count, longer) in
      let others = all_records (before ++ (r ∷ [])) (done ++ (p ∷ [])) ps (Some p) (append_assoc done (p ∷ []) ps ∙ joined) longer_done (omega (arith, longer, left)) (last_behind before r) rows.1
      (λ k more. subst (λ (t : List SiteRow). Across t (sites_of k sites)) (sym behind)
      (across_append (flat_map (λ r. r.sites) before) own (sites_of k sites) (across k (omega (arith, more, longer))) (rising_across n k None sites (omega (arith, more, longer)) rises)))
      (subst (λ (m : ℕ). length (flat_map (λ r. r.sites) (before ++ (r ∷ []))) + length (flat_map (λ r. r.sites) (records_from m ps sites)) ≡ total) (sym longer)
      (omega (arith, ap length behind, length-append (flat_map (λ r. r.sites) before) own, apart, sum))) in (
        one_record before p previous at same rows.0 (across n (omega arith)) whole,
        subst (λ (m : ℕ). AreRowsBehind (λ before. (procedure_record code_length procedures total before).Holds) (before ++ (r ∷ [])) (records_from m ps sites)) longer others,
      )
    where
      no_more : (ps : List ProcRow) → length ps ≡ 0 → length (flat_map (λ r. r.sites) (records_from (suc (length before)) ps sites)) ≡ 0
      no_more [] none = refl
      no_more (p ∷ ps) none = absurd (omega (arith, none))

records_long : (n : ℕ) (ps : List ProcRow) (ss : List SiteRow) → length (records_from n ps ss) ≡ length ps
records_long n [] ss = refl
records_long n (p ∷ ps) ss = ap suc (records_long (suc n) ps ss)

-- what the tables of version 1 keep, those of version 2 keep
pub first_keeps_second : (code_length procedures sites : ℕ) (t : Tables) → sites < 2 ^ 32 → (first_tables code_length procedures sites).Holds t → HaveOnePlace t.1 →
    (second_tables code_length procedures sites).Holds t
first_keeps_second code_length procedures total (procs, sites) few holds one =
    let all = fits code_length procs None sites holds.1.1 in
    let rises = rising code_length procs None sites holds.1.1 in
    let joined = joined_again procs sites rises (below code_length procs sites all) in
    let rows = rows_again 0 procs sites in
    let back : tables_of (records_of (procs, sites)) ≡ (procs, sites) = rw (rows, joined) refl in
    let sum : length (flat_map (λ r. r.sites) (records_from 0 procs sites)) ≡ total =
    sym (order_length (flat_map (λ r. r.sites) (records_from 0 procs sites))) ∙ ap length joined ∙ holds.1.0 in
    let left : 0 + length procs ≡ procedures = omega (arith, holds.0.0) in
    let records = all_records code_length procedures total procs sites all (all_stay sites one) rises (omega (arith, few, holds.1.0)) [] [] procs None refl refl left refl holds.0.1
    (λ k low. across_none (sites_of k sites)) (omega (arith, sum)) in
    ((records_long 0 procs sites ∙ holds.0.0, records), back)
