-- How many bytes the rows of sites are spelled in: few for each token of a procedure, five for each variable at each site, and sixteen for each span at each.
use Rattle.std.proofs.Common.{ℕ, ◌+◌, ◌*◌, ◌≤◌, ◌++◌, None, List, [], ◌∷◌, length, flat_map, map, arith, mul-suc, suc-mul}
use Rattle.std.proofs.lemmas.List.{length-append, length-map}
use Rattle.std.proofs.lemmas.List.FromFn.{length-range_with_len}
use Rattle.std.proofs.lemmas.List.Sums.{sum_by-append, sum_by-cons}
use Rattle.std.specs.List.{enumerate_from, range_with_len, zip}
use Rattle.std.specs.Prelude.{slice_index, sum_by}
use Rattle.cmm_words.specs.declared.constant.Constant.{Constant}
use Rattle.cmm_words.specs.Widths.{bits}
use Rattle.cmm_program.specs.declared.procedure.Proc.{Proc}
use Rattle.cmm_program.specs.declared.procedure.Site.{Site}
use Rattle.cmm_program.specs.Liveness.{is_live_at}
use Rattle.cmm_image.specs.declared.rows.ProcRow.{ProcRow}
use Rattle.cmm_image.specs.declared.rows.SiteRow.{SiteRow}
use Rattle.cmm_image.specs.declared.rows.VariablePlace.{VariablePlace}
use Rattle.cmm_image.specs.declared.rows.VariablePlace.TheVariants.{Dead, Slot, Register}
use Rattle.cmm_format.specs.Formats.{number_bytes, optional_number}
use Rattle.cmm_image.specs.ImageFormat as image
use Rattle.cmm_image.specs.ImageFormat.{flags_number, procedure_at, site, span, unwind, width}
use Rattle.cmm_image.specs.Places.{place_bytes, variable_place}
use Rattle.cmm_format.proofs.Shared.{length-number_bytes}
use Rattle.cmm_allocate.specs.declared.procedure.ProcedurePlaces.{ProcedurePlaces}
use Rattle.cmm_tables.specs.declared.unplaced.UnplacedSite.{UnplacedSite}
use Rattle.cmm_tables.specs.SiteRows.{continuation_number, local_place, place_while, placed_site, span_row, unplaced_site, unwind_row}
use Rattle.cmm_link.specs.Rows.{placed_sites, sites_of}
use Rattle.cmm_link.proofs.SiteTokens.{site_measure}
use Rattle.cmm_link.proofs.Sizes.{number_then}

-- ---- one row

flat_long : {A : Type 0} (spelled : A → List ℕ) (most : ℕ) → ((a : A) → length (spelled a) ≤ most) → (xs : List A) → length (flat_map spelled xs) ≤ most * length xs
flat_long spelled most each [] = omega arith
flat_long spelled most each (a ∷ xs) =
    omega (arith, mul-suc most (length xs), length-append (spelled a) (flat_map spelled xs), each a, flat_long spelled most each xs)

place_long : (place : VariablePlace) → length (place_bytes place) ≤ 5
place_long Dead = omega arith
place_long (Slot offset) = omega (arith, length-number_bytes 4 offset)
place_long (Register r) = omega (arith, length-number_bytes 1 r)

abbrev pub row_cost : SiteRow → ℕ
row_cost s = 218 + 10 * length s.unwinds + 2 * length s.cuts + 5 * length s.variables + 16 * length s.spans

pub site_long : (code_length : ℕ) (procs : List ProcRow) (s : SiteRow) → length s.results ≤ 64 → length s.returns ≤ 64 →
    length ((site code_length procs None).spelled s) ≤ row_cost s
site_long code_length procs s results returns =
    let p = procedure_at procs s.procedure in
    let conts = length p.continuations in
    let spans = flat_map (span None).spelled s.spans in
    let spans_part = number_bytes 2 (length s.spans) ++ spans in
    let variables = flat_map (variable_place p.frame None).spelled s.variables in
    let from_variables = variables ++ spans_part in
    let cuts = flat_map (image.continuation_number conts None).spelled s.cuts in
    let cuts_part = number_bytes 2 (length s.cuts) ++ cuts in
    let from_cuts = cuts_part ++ from_variables in
    let unwinds = flat_map (unwind code_length conts None).spelled s.unwinds in
    let unwinds_part = number_bytes 2 (length s.unwinds) ++ unwinds in
    let from_unwinds = unwinds_part ++ from_cuts in
    let exits = flat_map (image.continuation_number conts None).spelled s.returns in
    let exits_part = number_bytes 1 (length s.returns) ++ exits in
    let from_exits = exits_part ++ from_unwinds in
    let widths = flat_map width.spelled s.results in
    let widths_part = number_bytes 1 (length s.results) ++ widths in
    let from_widths = widths_part ++ from_exits in
    let yields = number_bytes 1 (optional_number 255 s.yield_values) ++ from_widths in
    let from_flags = number_bytes 1 (flags_number (s.never_returns, s.aborts)) ++ yields in
    omega (
      arith,
      number_then 8 s.return_address (number_bytes 4 s.procedure ++ (number_bytes 4 s.number ++ from_flags)),
      number_then 4 s.procedure (number_bytes 4 s.number ++ from_flags),
      number_then 4 s.number from_flags,
      number_then 1 (flags_number (s.never_returns, s.aborts)) yields,
      number_then 1 (optional_number 255 s.yield_values) from_widths,
      length-append widths_part from_exits,
      number_then 1 (length s.results) widths,
      flat_long width.spelled 1 (λ w. omega (arith, length-number_bytes 1 (bits w))) s.results,
      results,
      length-append exits_part from_unwinds,
      number_then 1 (length s.returns) exits,
      flat_long (image.continuation_number conts None).spelled 2 (λ c. omega (arith, length-number_bytes 2 c.0)) s.returns,
      returns,
      length-append unwinds_part from_cuts,
      number_then 2 (length s.unwinds) unwinds,
      flat_long (unwind code_length conts None).spelled 10
          (λ u. omega (arith, number_then 2 u.continuation.0 (number_bytes 8 u.landing), length-number_bytes 8 u.landing)) s.unwinds,
      length-append cuts_part from_variables,
      number_then 2 (length s.cuts) cuts,
      flat_long (image.continuation_number conts None).spelled 2 (λ c. omega (arith, length-number_bytes 2 c.0)) s.cuts,
      length-append variables spans_part,
      flat_long (variable_place p.frame None).spelled 5 place_long s.variables,
      number_then 2 (length s.spans) spans,
      flat_long (span None).spelled 16 (λ x. omega (arith, number_then 8 x.token (number_bytes 8 x.value), length-number_bytes 8 x.value)) s.spans,
    )

-- ---- all of them

module _ (value : Constant → ℕ) where
  sites_cost : (p : Proc) (k : ProcedurePlaces) (q from : ℕ) (landings : List ℕ) (sites : List Site) (addresses : List ℕ) →
      sum_by row_cost
      (map (λ of. placed_site (λ k. slice_index landings k) value of.1 of.0) (zip (map (λ of. unplaced_site p (local_place k.locals) q of.0 of.1) (enumerate_from from sites)) addresses))
      ≤ 129 * sum_by site_measure sites + 5 * (length sites * length p.vars) + 16 * sum_by (λ (s : Site). length s.spans) sites
  sites_cost p k q from landings [] addresses = omega arith
  sites_cost p k q from landings (s ∷ sites) [] = omega arith
  sites_cost p k q from landings (s ∷ sites) (a ∷ addresses) =
      let row = placed_site (λ k. slice_index landings k) value a (unplaced_site p (local_place k.locals) q from s) in
      let rest =
      map (λ (of : UnplacedSite × ℕ). placed_site (λ k. slice_index landings k) value of.1 of.0)
      (zip (map (λ (of : ℕ × Site). unplaced_site p (local_place k.locals) q of.0 of.1) (enumerate_from (from + 1) sites)) addresses) in
      omega (
        arith,
        sum_by-cons row_cost row rest,
        sum_by-cons site_measure s sites,
        sum_by-cons (λ (s : Site). length s.spans) s sites,
        suc-mul (length sites) (length p.vars),
        length-map (map continuation_number s.unwinds) (unwind_row (λ k. slice_index landings k)),
        length-map s.unwinds continuation_number,
        length-map s.cuts continuation_number,
        length-map (range_with_len 0 (length p.vars)) (λ v. place_while (is_live_at p from v) (local_place k.locals v)),
        length-range_with_len 0 (length p.vars),
        length-map s.spans (span_row value),
        sites_cost p k q (from + 1) landings sites addresses,
      )

  pub rows_cost : (from : ℕ) (procs : List Proc) (places : List ProcedurePlaces) (landings addresses : List (List ℕ)) →
      sum_by row_cost (flat_map (placed_sites value) (enumerate_from from (zip procs (zip places (zip landings addresses)))))
      ≤ 129 * sum_by (λ q. sum_by site_measure q.sites) procs + 5 * sum_by (λ q. length q.sites * length q.vars) procs
      + 16 * sum_by (λ q. sum_by (λ site. length site.spans) q.sites) procs
  rows_cost from [] places landings addresses = omega arith
  rows_cost from (p ∷ procs) [] landings addresses = omega arith
  rows_cost from (p ∷ procs) (k ∷ places) [] addresses = omega arith
  rows_cost from (p ∷ procs) (k ∷ places) (ls ∷ landings) [] = omega arith
  rows_cost from (p ∷ procs) (k ∷ places) (ls ∷ landings) (as_ ∷ addresses) =
      let rest = flat_map (placed_sites value) (enumerate_from (from + 1) (zip procs (zip places (zip landings addresses)))) in
      omega (
        arith,
        sum_by-append row_cost (sites_of value from p k ls as_) rest,
        sum_by-cons (λ (q : Proc). sum_by site_measure q.sites) p procs,
        sum_by-cons (λ (q : Proc). length q.sites * length q.vars) p procs,
        sum_by-cons (λ (q : Proc). sum_by (λ (s : Site). length s.spans) q.sites) p procs,
        sites_cost p k from 0 ls p.sites as_,
        rows_cost (from + 1) procs places landings addresses,
      )

pub rows_few : (rows : List SiteRow) → 218 * length rows ≤ sum_by row_cost rows
rows_few [] = omega arith
rows_few (s ∷ rows) = omega (arith, sum_by-cons row_cost s rows, rows_few rows)
