-- The rows of sites keep the conditions of an image.
use Rattle.std.proofs.Common.{◌≡◌, ℕ, suc, ◌+◌, ◌<◌, ◌≤◌, ◌^◌, ◌%◌, ◌&&◌, ◌==◌, nat_le, nat_lt, true, All, Option, Some, None, List, [], ◌∷◌, length, flat_map, map, slice_get, refl, sym, ap, ◌∙◌, subst, arith}
use Rattle.std.proofs.lemmas.Bool.{and_from, and_parts, eqb-true, leb-true, le-leb}
use Rattle.std.proofs.lemmas.List.{length-append, length-map}
use Rattle.std.proofs.lemmas.List.Elements.{All-head, All-tail}
use Rattle.std.proofs.lemmas.List.FromFn.{length-map-range_with_len}
use Rattle.std.proofs.lemmas.List.Sums.{sum_by-cons}
use Rattle.std.proofs.lemmas.Option.{slice_get_within}
use Rattle.std.specs.List.{list_all, range_with_len, zip}
use Rattle.std.specs.Option.{is_some, option_map}
use Rattle.std.specs.Prelude.{slice_index, sum_by}
use Rattle.rv_table.specs.declared.memory_map.TheConstants.{CODE_LENGTH_LIMIT}
use Rattle.cmm_words.specs.declared.constant.Constant.{Constant}
use Rattle.cmm_program.specs.declared.procedure.Cont.{Cont}
use Rattle.cmm_program.specs.declared.procedure.Proc.{Proc}
use Rattle.cmm_program.specs.declared.procedure.Site.{Site}
use Rattle.cmm_program.specs.declared.program.Program.{Program}
use Rattle.cmm_program.specs.InRange.{IsProcInRange, is_site}
use Rattle.cmm_program.specs.Liveness.{is_live_at}
use Rattle.cmm_program.specs.Orders.{target_width}
use Rattle.cmm_program.proofs.Shared.{all_get, list_all_get}
use Rattle.cmm_located.specs.Layouts.{IsFrameOf}
use Rattle.cmm_image.specs.declared.rows.ProcRow.{ProcRow}
use Rattle.cmm_image.specs.declared.rows.SiteRow.{SiteRow}
use Rattle.cmm_image.specs.declared.rows.VariablePlace.{VariablePlace}
use Rattle.cmm_format.specs.Formats.{AreRows}
use Rattle.cmm_image.specs.ImageFormat.{SiteLists, exits_in_code, has_sites, is_above, is_in_code, or_none, procedure_at, site, site_lists, site_lists_in}
use Rattle.cmm_allocate.specs.declared.procedure.ProcedurePlaces.{ProcedurePlaces}
use Rattle.cmm_tables.specs.ProcedureRows.{continuation_rows, procedure_row}
use Rattle.cmm_image_machine.specs.Tables.{variable_row}
use Rattle.cmm_tables.specs.SiteRows.{continuation_number, local_place, place_while, placed_site, span_row, unplaced_site, unwind_row}
use Rattle.cmm_unit_code.specs.declared.text.Text.{Text}
use Rattle.cmm_unit_code.specs.Texts.{HasLandings, HasSitesAt, IsSiteAt, IsText, ascend_above}
use Rattle.cmm_link.specs.Linked.{HaveFewSpans, HaveFrames}
use Rattle.cmm_link.specs.Rows.{placed_procedure, procedure_rows}
use Rattle.cmm_link.specs.inside.Named.{HasSmallSpans, IsSmallSpan}
use Rattle.cmm_link.proofs.Frames.{Fits, frame_fits}
use Rattle.cmm_link.proofs.Listed.{both_at, get_there, map_get, there_at, zip_get}
use Rattle.cmm_link.proofs.ProcedureRows.{address_small}
use Rattle.cmm_link.proofs.SiteFields.{exits_hold, flags_hold, places_hold, spans_hold, unwinds_hold, widths_hold}
use Rattle.cmm_link.proofs.SiteSizes.{row_cost, site_long}
use Rattle.cmm_link.proofs.SiteTable.{IsRow, of_lists}
use Rattle.cmm_link.proofs.SiteTokens.{site_measure}
use Rattle.cmm_link.proofs.SiteYields.{HasParts, parts_of, yields_hold}
use Rattle.cmm_link.proofs.Tokens.{site_within, sites_counted, tokens_of_parts}

continuations_many : (conts : List Cont) (pairs landings : List ℕ) → length pairs ≡ length conts → length landings ≡ length conts →
    length (continuation_rows conts pairs landings) ≡ length conts
continuations_many [] pairs landings one two = refl
continuations_many (c ∷ cs) [] landings one two = absurd (omega (arith, one))
continuations_many (c ∷ cs) (pair ∷ pairs) [] one two = absurd (omega (arith, two))
continuations_many (c ∷ cs) (pair ∷ pairs) (l ∷ ls) one two =
    ap (λ (n : ℕ). suc n) (continuations_many cs pairs ls (omega (arith, one)) (omega (arith, two)))

-- ---- one site

module _
    (prog : Program) (code_length : ℕ) (room : code_length ≤ CODE_LENGTH_LIMIT) (p : Proc) (k : ProcedurePlaces) (range : IsProcInRange prog p)
    (laid : IsFrameOf p k.locals k.frame) (lands : List ℕ) (landed : list_all (is_in_code code_length) lands ≡ true) (many : length lands ≡ length p.conts) (n : ℕ)
    (its : Site) (there : slice_get p.sites n ≡ Some its) (few : length its.spans < 2 ^ 16) (value : Constant → ℕ) (address : ℕ) (at : IsSiteAt code_length its address)
    (small : All IsSmallSpan (map (span_row value) its.spans)) where
  fits : Fits p k.frame
  fits = frame_fits prog p k.locals k.frame range laid

  size_small : k.frame.size < 2 ^ 31
  size_small = let least = fits.small in omega (arith, least)

  conts_few : length p.conts ≤ 65536
  conts_few = let most = range.frames.tokens in omega (arith, most, tokens_of_parts prog p range)

  measured : site_measure its ≤ 131072
  measured = let most = range.frames.tokens in omega (arith, most, tokens_of_parts prog p range, site_within p.sites n its there)

  its_parts : HasParts p its
  its_parts = (parts_of prog p its (list_all_get (is_site prog p) p.sites n its range.sites there)).0

  abbrev variables : List VariablePlace
  variables = map (λ v. place_while (is_live_at p n v) (local_place k.locals v)) (range_with_len 0 (length p.vars))

  abbrev lists : SiteLists
  lists = (
    map continuation_number its.returns,
    (
      map (unwind_row (λ k. slice_index lands k)) (map continuation_number its.unwinds),
      (map continuation_number its.cuts, (variables, map (span_row value) its.spans)),
    ),
  )

  lists_hold : (site_lists code_length k.frame.size (length p.vars) (length p.conts) address).Holds lists
  lists_hold =
      let returns : length (map continuation_number its.returns) ≡ length its.returns = length-map its.returns continuation_number in
      let unwinds : length (map (unwind_row (λ k. slice_index lands k)) (map continuation_number its.unwinds)) ≡ length its.unwinds =
      length-map (map continuation_number its.unwinds) (unwind_row (λ k. slice_index lands k)) ∙ length-map its.unwinds continuation_number in
      let cuts : length (map continuation_number its.cuts) ≡ length its.cuts = length-map its.cuts continuation_number in
      let spans : length (map (span_row value) its.spans) ≡ length its.spans = length-map its.spans (span_row value) in
      let few_returns = its_parts.returns in
      let exits : exits_in_code code_length address (length (map continuation_number its.returns)) ≡ true =
      subst (λ (n : ℕ). exits_in_code code_length address n ≡ true) (sym returns) at.1 in
      let own = (parts_of prog p its (list_all_get (is_site prog p) p.sites n its range.sites there)).1 in (
        ((omega (arith, returns, few_returns), (le-leb _ _ (omega (arith, returns, few_returns)), (exits, tt))), exits_hold (length p.conts) None its.returns conts_few its_parts.returns_below),
        (
          (
            omega (arith, unwinds, measured),
            unwinds_hold code_length (length p.conts) None lands its.unwinds conts_few (λ a is. address_small code_length a room is) landed many its_parts.unwinds_below,
          ),
          (
            (omega (arith, cuts, measured), exits_hold (length p.conts) None its.cuts conts_few its_parts.cuts_below),
            (
              (
                length-map-range_with_len (λ v. place_while (is_live_at p n v) (local_place k.locals v)) 0 (length p.vars),
                places_hold k.frame (λ v. is_live_at p n v) k.locals None 0 (length p.vars) size_small laid.locals,
              ),
              (omega (arith, spans, few), spans_hold prog p value None its.spans (λ s rest is. refl) own small),
            ),
          ),
        ),
      )

  big : 16 ≤ k.frame.size
  big =
      let word = fits.return_at in
      let inside = leb-true (k.frame.return_at + 8) k.frame.size (and_parts (k.frame.return_at % 8 == 0) (nat_le (k.frame.return_at + 8) k.frame.size) word).1 in
      let whole = eqb-true (k.frame.size % 16) 0 fits.aligned in
      omega (arith, inside, whole)

  site_holds : (rows : List ProcRow) (q code : ℕ) → q < 2 ^ 32 → procedure_at rows q ≡ procedure_row p k.frame code lands →
      (site code_length rows None).Holds (placed_site (λ k. slice_index lands k) value address (unplaced_site p (local_place k.locals) q n its))
  site_holds rows q code less is =
      let results : length (map target_width its.results) ≡ length its.results = length-map its.results target_width in
      let few_results = its_parts.results in
      let counted = sites_counted p.sites in
      let tokens = range.frames.tokens in
      let own : has_sites rows q ≡ true =
      subst (λ (r : ProcRow). (nat_le 16 r.frame && is_some r.return_at) ≡ true) (sym is) (and_from (nat_le 16 k.frame.size) _ (le-leb _ _ big) refl) in
      let vars : length (map variable_row p.vars) ≡ length p.vars = length-map p.vars variable_row in
      let conts = continuations_many p.conts k.frame.pairs lands fits.count many in
      let in_row : (site_lists_in code_length (procedure_row p k.frame code lands) address).Holds lists =
      subst (λ (v : ℕ). (site_lists code_length k.frame.size v (length (continuation_rows p.conts k.frame.pairs lands)) address).Holds lists) (sym vars)
      (subst (λ (c : ℕ). (site_lists code_length k.frame.size (length p.vars) c address).Holds lists) (sym conts) lists_hold) in
      let word = address_small code_length address room at.0 in (
        (omega (arith, word), (refl, (at.0, tt))),
        (
          (omega (arith, less), (own, tt)),
          (
            omega (arith, slice_get_within p.sites n its there, counted, tokens, tokens_of_parts prog p range),
            (
              flags_hold its.never its.aborts,
              (
                yields_hold prog p n its there range,
                (
                  ((omega (arith, results, few_results), (le-leb _ _ (omega (arith, results, few_results)), tt)), widths_hold None (map target_width its.results)),
                  subst (λ (r : ProcRow). (site_lists_in code_length r address).Holds lists) (sym is) in_row,
                ),
              ),
            ),
          ),
        ),
      )

-- ---- all sites

pub row_holds : (prog : Program) (places : List ProcedurePlaces) (t : Text) (value : Constant → ℕ) → length t.code ≤ CODE_LENGTH_LIMIT → length prog.procs ≤ 65535 →
    All (IsProcInRange prog) prog.procs → HaveFrames prog.procs places → IsText prog t → HaveFewSpans prog.procs → (row : SiteRow) →
    IsRow value prog.procs places t.landings t.sites row → HasSmallSpans row →
    (site (length t.code) (procedure_rows prog.procs places t.procedures t.landings) None).Holds row
row_holds prog places t value room count range frames text spans row is small =
    let code_length = length t.code in
    let rows = procedure_rows prog.procs places t.procedures t.landings in
    let less = slice_get_within prog.procs is.q is.p is.is_procedure in
    let same = text.count in
    let code = get_there t.procedures is.q (omega (arith, less, same)) in
    let all = there_at (HasSitesAt code_length) prog.procs t.sites is.q is.p text.sites is.is_procedure in
    let at_q =
    zip_get prog.procs (zip places (zip t.procedures t.landings)) is.q is.p (is.k, (code.0, is.lands)) is.is_procedure
    (zip_get places (zip t.procedures t.landings) is.q is.k (code.0, is.lands) is.is_places (zip_get t.procedures t.landings is.q code.0 is.lands code.1 is.is_lands))
    in
    let found : procedure_at rows is.q ≡ procedure_row is.p is.k.frame code.0 is.lands =
    ap or_none (map_get placed_procedure (zip prog.procs (zip places (zip t.procedures t.landings))) is.q (is.p, (is.k, (code.0, is.lands))) at_q) in
    subst (λ (row : SiteRow). (site code_length rows None).Holds row) (sym is.is_row)
    (site_holds prog code_length room is.p is.k (all_get (IsProcInRange prog) prog.procs is.q is.p range is.is_procedure)
    (both_at (λ q k. IsFrameOf q k.locals k.frame) prog.procs places is.q is.p is.k frames is.is_procedure is.is_places) is.lands
    (list_all_get (list_all (is_in_code code_length)) t.landings is.q is.lands text.landings is.is_lands)
    (both_at HasLandings prog.procs t.landings is.q is.p is.lands text.counts is.is_procedure is.is_lands) is.n is.site is.is_site
    (all_get (λ site. length site.spans < 2 ^ 16) is.p.sites is.n is.site (all_get (λ q. All (λ site. length site.spans < 2 ^ 16) q.sites) prog.procs is.q is.p spans is.is_procedure) is.is_site)
    value is.address
    (both_at (IsSiteAt code_length) is.p.sites all.0 is.n is.site is.address all.2 is.is_site (of_lists t.sites is.q is.n is.address all.0 all.1 is.is_address))
    (subst HasSmallSpans is.is_row small) rows is.q code.0 (omega (arith, less, count)) found)

-- a row that is valid by itself is valid behind another whose address is below its own
behind : (code_length : ℕ) (rows : List ProcRow) (previous : Option SiteRow) (row : SiteRow) → is_above (option_map (λ s. s.return_address) previous) row.return_address ≡ true →
    (site code_length rows None).Holds row → (site code_length rows previous).Holds row
behind code_length rows previous row above holds = ((holds.0.0, (above, holds.0.1.1)), holds.1)

pub sites_hold : (code_length : ℕ) (rows : List ProcRow) (previous : Option SiteRow) (before : ℕ) (sites : List SiteRow) →
    ((address : ℕ) → nat_lt before address ≡ true → is_above (option_map (λ s. s.return_address) previous) address ≡ true) →
    ascend_above before (map (λ row. row.return_address) sites) ≡ true → All (λ row. (site code_length rows None).Holds row) sites →
    AreRows (λ previous. (site code_length rows previous).Holds) previous sites
sites_hold code_length rows previous before [] above ascend hold = tt
sites_hold code_length rows previous before (row ∷ sites) above ascend hold =
    let up = and_parts (nat_lt before row.return_address) (ascend_above row.return_address (map (λ row. row.return_address) sites)) ascend in
    let Valid : SiteRow → Type 0 = λ row. (site code_length rows None).Holds row in (
      behind code_length rows previous row (above row.return_address up.0) (All-head Valid row sites hold),
      sites_hold code_length rows (Some row) row.return_address sites (λ next less. less) up.1 (All-tail Valid row sites hold),
    )

pub sites_long : (code_length : ℕ) (rows : List ProcRow) (sites : List SiteRow) → All (λ row. (site code_length rows None).Holds row) sites →
    length (flat_map (site code_length rows None).spelled sites) ≤ sum_by row_cost sites
sites_long code_length rows [] hold = omega arith
sites_long code_length rows (row ∷ sites) hold =
    let Valid : SiteRow → Type 0 = λ row. (site code_length rows None).Holds row in
    let holds : Valid row = All-head Valid row sites hold in
    let results = leb-true (length row.results) 64 holds.1.1.1.1.1.0.0.1.0 in
    let returns = leb-true (length row.returns) 64 holds.1.1.1.1.1.1.0.0.1.0 in
    omega (
      arith,
      length-append ((site code_length rows None).spelled row) (flat_map (site code_length rows None).spelled sites),
      sum_by-cons row_cost row sites,
      site_long code_length rows row results returns,
      sites_long code_length rows sites (All-tail Valid row sites hold),
    )
