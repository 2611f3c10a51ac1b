-- Version 2 spells tables in five bytes more than version 1 for each procedure and each variable, or in fewer.
use Rattle.std.proofs.Common.{◌≡◌, ℕ, zero, suc, ◌+◌, ◌*◌, ◌≤◌, List, [], ◌∷◌, ◌++◌, length, map, flat_map, take, drop, nat_lt, Bool, true, false, None, refl, sym, ap, subst, ◌∙◌, arith}
use Rattle.std.specs.List.{zip}
use Rattle.std.specs.Prelude.{sum_by}
use Rattle.std.proofs.lemmas.List.{length-append}
use Rattle.std.proofs.lemmas.List.Concat.{flat_map-append}
use Rattle.std.proofs.lemmas.List.Sums.{sum_by-cons}
use Rattle.cmm_format.specs.Formats.{AreRowsBehind, counted, number_bytes, optional_number, text_bytes}
use Rattle.cmm_format.proofs.Shared.{length-number_bytes}
use Rattle.cmm_image.specs.declared.procedure_record.ProcedureRecord.{ProcedureRecord}
use Rattle.cmm_image.specs.declared.rows.ProcRow.{ProcRow}
use Rattle.cmm_image.specs.declared.rows.SiteRow.{SiteRow}
use Rattle.cmm_image.specs.declared.rows.VariablePlace.{VariablePlace}
use Rattle.cmm_image.specs.declared.rows.VariablePlace.TheVariants.{Dead, Slot, Register}
use Rattle.cmm_image.specs.declared.rows.VariableRow.{VariableRow}
use Rattle.cmm_image.specs.ImageFormat.{Tables, continuation, continuation_number, first_tables, flags_number, no_return, procedure, saved_register, site, span, stack_label, u16, unwind, variable, width}
use Rattle.cmm_image.specs.ImageFormat as format
use Rattle.cmm_image.specs.Places.{place_bytes}
use Rattle.cmm_image.specs.SecondFormat.{in_order, live_site, mask_count, mask_number, masks, placed, placed_variable, procedure_record, put_in, records_of, row_places, second_tables, tables_of}
use Rattle.cmm_image.specs.inside.SecondSpellings.{front_bytes, record_bytes}
use Rattle.cmm_image.proofs.MaskLaws.{Under, under-length}
use Rattle.cmm_image.proofs.SecondLaws.{AllUnder, are_under}

-- ---- bytes beside others

behind : (a t u : List ℕ) (n : ℕ) → length t ≤ length u + n → length (a ++ t) ≤ length (a ++ u) + n
behind a t u n less = omega (arith, less, length-append a t, length-append a u)

before : (a t u : List ℕ) (n : ℕ) → length t ≤ length u + n → length (t ++ a) ≤ length (u ++ a) + n
before a t u n less = omega (arith, less, length-append t a, length-append u a)

-- ---- procedures

place_long : (place : VariablePlace) → length (place_bytes place) ≤ 5
place_long Dead = omega arith
place_long (Slot offset) = omega (arith, length-number_bytes 4 offset)
place_long (Register register) = omega (arith, length-number_bytes 1 register)

rows_short : (vs : List VariableRow) (ps : List VariablePlace) →
    length (flat_map (placed_variable 0 None).spelled (map placed (zip vs ps))) ≤ length (flat_map (variable None).spelled vs) + 5 * length vs
rows_short [] ps = omega arith
rows_short (v ∷ vs) [] = omega arith
rows_short (v ∷ vs) (p ∷ ps) =
    let own = (variable None).spelled v in
    let rest = flat_map (placed_variable 0 None).spelled (map placed (zip vs ps)) in
    omega (
      arith,
      place_long p,
      rows_short vs ps,
      length-append own (place_bytes p),
      length-append (own ++ place_bytes p) rest,
      length-append own (flat_map (variable None).spelled vs),
    )

placed_short : (vs : List VariableRow) (ps : List VariablePlace) →
    length ((counted u16 (placed_variable 0)).spelled (map placed (zip vs ps))) ≤ length ((counted u16 variable).spelled vs) + 5 * length vs
placed_short vs ps =
    let all = map placed (zip vs ps) in
    let bytes = flat_map (placed_variable 0 None).spelled all in
    let own = flat_map (variable None).spelled vs in
    omega (
      arith,
      rows_short vs ps,
      length-append (number_bytes 2 (length all)) bytes,
      length-append (number_bytes 2 (length vs)) own,
      length-number_bytes 2 (length all),
      length-number_bytes 2 (length vs),
    )

front_short : (p : ProcRow) (places : List VariablePlace) → length (front_bytes p places) ≤ length ((procedure 0 None).spelled p) + 5 * length p.variables
front_short p places =
    let n = 5 * length p.variables in
    let placed_part = (counted u16 (placed_variable 0)).spelled (map placed (zip p.variables places)) in
    let own_part = (counted u16 variable).spelled p.variables in
    let rest = (counted u16 (stack_label 0)).spelled p.stack_labels ++ (counted u16 (continuation 0 0 0)).spelled p.continuations in
    let saved = (counted format.u8 (saved_register 0)).spelled p.saved in
    let t4 = before rest placed_part own_part n (placed_short p.variables places) in
    let t3 = behind saved (placed_part ++ rest) (own_part ++ rest) n t4 in
    let return_at = number_bytes 4 (optional_number no_return p.return_at) in
    let t2 = behind return_at (saved ++ (placed_part ++ rest)) (saved ++ (own_part ++ rest)) n t3 in
    let frame = number_bytes 4 p.frame in
    let t1 = behind frame (return_at ++ (saved ++ (placed_part ++ rest))) (return_at ++ (saved ++ (own_part ++ rest))) n t2 in
    let name = text_bytes p.name in
    let t0 = behind name (frame ++ (return_at ++ (saved ++ (placed_part ++ rest)))) (frame ++ (return_at ++ (saved ++ (own_part ++ rest)))) n t1 in
    behind (number_bytes 8 p.code) (name ++ (frame ++ (return_at ++ (saved ++ (placed_part ++ rest))))) (name ++ (frame ++ (return_at ++ (saved ++ (own_part ++ rest))))) n t0

-- ---- sites

masks_long : (n : ℕ) (ps vs : List VariablePlace) → length ((masks n ps).spelled vs) ≡ n
masks_long zero ps vs = refl
masks_long (suc n) ps vs =
    let first = number_bytes 1 (mask_number (take 8 vs)) in
    omega (arith, masks_long n (drop 8 ps) (drop 8 vs), length-append first ((masks n (drop 8 ps)).spelled (drop 8 vs)), length-number_bytes 1 (mask_number (take 8 vs)))

place_some : (place : VariablePlace) → 1 ≤ length (place_bytes place)
place_some Dead = omega arith
place_some (Slot offset) = omega arith
place_some (Register register) = omega arith

places_some : (vs : List VariablePlace) → length vs ≤ length (flat_map place_bytes vs)
places_some [] = omega arith
places_some (v ∷ vs) = omega (arith, place_some v, places_some vs, length-append (place_bytes v) (flat_map place_bytes vs))

masks_few : (n : ℕ) → mask_count n ≤ n
masks_few n = omega arith

site_short : (places : List VariablePlace) (conts : ℕ) (s : SiteRow) → Under places s.variables → length ((live_site 0 0 [] places conts None).spelled s) ≤ length ((site 0 [] None).spelled s)
site_short places conts s under =
    let bits = (masks (mask_count (length places)) places).spelled s.variables in
    let own = flat_map place_bytes s.variables in
    let fewer : length bits ≤ length own + 0 =
    omega (arith, masks_long (mask_count (length places)) places s.variables, masks_few (length places), places_some s.variables, under-length places s.variables under) in
    let spans = (counted u16 span).spelled s.spans in
    let cuts = (counted u16 (continuation_number 0)).spelled s.cuts in
    let unwinds = (counted u16 (unwind 0 0)).spelled s.unwinds in
    let returns = (counted format.u8 (continuation_number 0)).spelled s.returns in
    let results = (counted format.u8 (λ previous. width)).spelled s.results in
    let yields = number_bytes 1 (optional_number 255 s.yield_values) in
    let flags = number_bytes 1 (flags_number (s.never_returns, s.aborts)) in
    let number = number_bytes 4 s.number in
    let procedure = number_bytes 4 s.procedure in
    let t7 = before spans bits own 0 fewer in
    let t6 = behind cuts (bits ++ spans) (own ++ spans) 0 t7 in
    let t5 = behind unwinds (cuts ++ (bits ++ spans)) (cuts ++ (own ++ spans)) 0 t6 in
    let b4 = unwinds ++ (cuts ++ (bits ++ spans)) in
    let o4 = unwinds ++ (cuts ++ (own ++ spans)) in
    let t4 = behind returns b4 o4 0 t5 in
    let t3 = behind results (returns ++ b4) (returns ++ o4) 0 t4 in
    let t2 = behind yields (results ++ (returns ++ b4)) (results ++ (returns ++ o4)) 0 t3 in
    let b1 = yields ++ (results ++ (returns ++ b4)) in
    let o1 = yields ++ (results ++ (returns ++ o4)) in
    let t1 = behind flags b1 o1 0 t2 in
    let t0 = behind number (flags ++ b1) (flags ++ o1) 0 t1 in
    let named : length (number ++ (flags ++ b1)) ≤ length (procedure ++ (number ++ (flags ++ o1))) + 0 = omega (arith, t0, length-append procedure (number ++ (flags ++ o1))) in
    let all = behind (number_bytes 8 s.return_address) (number ++ (flags ++ b1)) (procedure ++ (number ++ (flags ++ o1))) 0 named in
    omega (arith, all)

sites_short : (places : List VariablePlace) (conts : ℕ) (ss : List SiteRow) → AllUnder places ss →
    length (flat_map (live_site 0 0 [] places conts None).spelled ss) ≤ length (flat_map (site 0 [] None).spelled ss)
sites_short places conts [] under = omega arith
sites_short places conts (s ∷ ss) under =
    omega (
      arith,
      site_short places conts s under.0,
      sites_short places conts ss under.1,
      length-append ((live_site 0 0 [] places conts None).spelled s) (flat_map (live_site 0 0 [] places conts None).spelled ss),
      length-append ((site 0 [] None).spelled s) (flat_map (site 0 [] None).spelled ss),
    )

-- ---- records

record_short : (r : ProcedureRecord) → AllUnder (row_places (map placed (zip r.row.variables r.places))) r.sites →
    length (record_bytes r) ≤ length ((procedure 0 None).spelled r.row) + (5 + 5 * length r.row.variables) + length (flat_map (site 0 [] None).spelled r.sites)
record_short r under =
    let places = row_places (map placed (zip r.row.variables r.places)) in
    let conts = length r.row.continuations in
    let front = front_bytes r.row r.places in
    let live = flat_map (live_site 0 0 [] places conts None).spelled r.sites in
    let count = number_bytes 4 (length r.sites) in
    omega (
      arith,
      front_short r.row r.places,
      sites_short places conts r.sites under,
      length-append front ((count ++ live) ++ number_bytes 1 0),
      length-append (count ++ live) (number_bytes 1 0),
      length-append count live,
      length-number_bytes 4 (length r.sites),
      length-number_bytes 1 0,
    )

abbrev added : ProcRow → ℕ
added p = 5 + 5 * length p.variables

all_short : (code_length procedures total : ℕ) (done rs : List ProcedureRecord) →
    AreRowsBehind (λ before. (procedure_record code_length procedures total before).Holds) done rs →
    length (flat_map record_bytes rs)
    ≤ length (flat_map (procedure 0 None).spelled (map (λ r. r.row) rs)) + sum_by added (map (λ r. r.row) rs) + length (flat_map (site 0 [] None).spelled (flat_map (λ r. r.sites) rs))
all_short code_length procedures total done [] rows = omega arith
all_short code_length procedures total done (r ∷ rs) rows =
    let places = row_places (map placed (zip r.row.variables r.places)) in
    let under = are_under code_length done places (length r.row.continuations) None r.sites rows.0.0.1.0.1 in
    let rest = flat_map (λ r. r.sites) rs in
    let bytes = (site 0 [] None).spelled in
    omega (
      arith,
      record_short r under,
      all_short code_length procedures total (done ++ (r ∷ [])) rs rows.1,
      length-append (record_bytes r) (flat_map record_bytes rs),
      length-append ((procedure 0 None).spelled r.row) (flat_map (procedure 0 None).spelled (map (λ r. r.row) rs)),
      sum_by-cons added r.row (map (λ r. r.row) rs),
      ap length (flat_map-append bytes r.sites rest),
      length-append (flat_map bytes r.sites) (flat_map bytes rest),
    )

-- ---- the tables

put_long : (bytes : SiteRow → List ℕ) (s : SiteRow) (ss : List SiteRow) → length (flat_map bytes (put_in s ss)) ≡ length (bytes s) + length (flat_map bytes ss)
put_long bytes s [] = length-append (bytes s) []
put_long bytes s (t ∷ ts) = by (nat_lt s.return_address t.return_address) refl (put_long bytes s ts)
  where
    by : (b : Bool) → nat_lt s.return_address t.return_address ≡ b → length (flat_map bytes (put_in s ts)) ≡ length (bytes s) + length (flat_map bytes ts) →
        length (flat_map bytes (put_in s (t ∷ ts))) ≡ length (bytes s) + length (flat_map bytes (t ∷ ts))
    by true e rest = rw e (length-append (bytes s) (flat_map bytes (t ∷ ts)))
    by false e rest = rw e (omega (arith, rest, length-append (bytes t) (flat_map bytes (put_in s ts)), length-append (bytes t) (flat_map bytes ts)))

order_long : (bytes : SiteRow → List ℕ) (ss : List SiteRow) → length (flat_map bytes (in_order ss)) ≡ length (flat_map bytes ss)
order_long bytes [] = refl
order_long bytes (s ∷ ss) = put_long bytes s (in_order ss) ∙ ap (λ (n : ℕ). length (bytes s) + n) (order_long bytes ss) ∙ sym (length-append (bytes s) (flat_map bytes ss))

pub second_is_short : (code_length procedures sites : ℕ) (t : Tables) → (second_tables code_length procedures sites).Holds t →
    length ((second_tables code_length procedures sites).spelled t)
    ≤ length ((first_tables code_length procedures sites).spelled t) + sum_by (λ p. 5 + 5 * length p.variables) t.0
second_is_short code_length procedures total t holds =
    let rs = records_of t in
    let rows = flat_map (procedure 0 None).spelled (map (λ r. r.row) rs) in
    let sites = flat_map (λ r. r.sites) rs in
    let bytes = (site 0 [] None).spelled in
    let all = all_short code_length procedures total [] rs holds.0.1 in
    let whole : length (flat_map record_bytes rs) ≤ length ((first_tables 0 0 0).spelled (tables_of rs)) + sum_by added (map (λ r. r.row) rs) =
    omega (arith, all, order_long bytes sites, length-append rows (flat_map bytes (in_order sites))) in
    subst (λ (u : Tables). length (flat_map record_bytes rs) ≤ length ((first_tables 0 0 0).spelled u) + sum_by added u.0) holds.1 whole
