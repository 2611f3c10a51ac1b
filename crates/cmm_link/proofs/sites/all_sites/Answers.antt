use Rattle.std.proofs.Common.{◌≡◌, ℕ, List, ◌++◌, Some, flat_map, map, slice_get, subst, ap, sym, ◌∙◌, arith}
use Rattle.std.specs.List.{enumerate_from, zip}
use Rattle.std.specs.Prelude.{slice_index}
use Rattle.std.proofs.lemmas.List.{take_all}
use Rattle.std.proofs.lemmas.Option.{slice_get-get_or}
use Rattle.cmm_program.specs.declared.procedure.Proc.{Proc}
use Rattle.cmm_chain.specs.declared.frame.Location.{Location}
use Rattle.cmm_image.specs.declared.rows.SiteRow.{SiteRow}
use Rattle.cmm_allocate.specs.declared.procedure.ProcedurePlaces.{ProcedurePlaces}
use Rattle.cmm_tables.specs.declared.unplaced.UnplacedSite.{UnplacedSite}
use Rattle.cmm_tables.specs.Premises.{AreExactSets}
use Rattle.cmm_tables.specs.SiteRows.{local_place, placed_site, unplaced_sites}
use Rattle.cmm_link.specs.Rows.{placed_sites, sites_of}
use Rattle.cmm_link.specs.inside.Values.{value_at}
use Rattle.std.proofs.lemmas.Slice.Zip.{AllZip-long, length-zip}
use Rattle.cmm_link.proofs.Listed.{both_at, flat_more, zip_get}
use Rattle.cmm_link.proofs.sites.all_sites.Goals as goal

pub bounds-places-number : goal.bounds-places-number
bounds-places-number c =
    let less = c.loop-number-test.true in
    omega (arith, less, AllZip-long (λ (q : Proc) (k : ProcedurePlaces). AreExactSets q k.live.sites) c.args.procs.now c.args.places.now c.requires.live)

pub site_rows-requires-clause-live : goal.site_rows-requires-clause-live
site_rows-requires-clause-live c =
    let i = c.loop-number.number in
    let less = c.loop-number-test.true in
    let count = AllZip-long (λ (q : Proc) (k : ProcedurePlaces). AreExactSets q k.live.sites) c.args.procs.now c.args.places.now c.requires.live in
    let p : slice_get c.args.procs.now i ≡ Some c.index-procs-number.result = slice_get-get_or c.args.procs.now i c.index-procs-number.result less ∙ ap Some (sym c.index-procs-number.is) in
    let k : slice_get c.args.places.now i ≡ Some c.index-places-number.result =
    slice_get-get_or c.args.places.now i c.index-places-number.result (omega (arith, less, count)) ∙ ap Some (sym c.index-places-number.is) in
    subst (AreExactSets c.index-procs-number.result) (sym c.as_slice-in-loop-number.ensures)
    (both_at (λ (q : Proc) (k : ProcedurePlaces). AreExactSets q k.live.sites) c.args.procs.now c.args.places.now i c.index-procs-number.result c.index-places-number.result c.requires.live p k)

pub loop-number-preserved : goal.loop-number-preserved
loop-number-preserved c =
    let i = c.loop-number.number in
    let less = c.loop-number-test.true in
    let count = AllZip-long (λ (q : Proc) (k : ProcedurePlaces). AreExactSets q k.live.sites) c.args.procs.now c.args.places.now c.requires.live in
    let landed = c.requires.landings in
    let sited = c.requires.sites in
    let p : slice_get c.args.procs.now i ≡ Some c.index-procs-number.result = slice_get-get_or c.args.procs.now i c.index-procs-number.result less ∙ ap Some (sym c.index-procs-number.is) in
    let k : slice_get c.args.places.now i ≡ Some c.index-places-number.result =
    slice_get-get_or c.args.places.now i c.index-places-number.result (omega (arith, less, count)) ∙ ap Some (sym c.index-places-number.is) in
    let lands : slice_get c.args.text.now.landings i ≡ Some c.index-landings-number.result =
    ap (λ (all : List (List ℕ)). slice_get all i) (sym c.as_slice-landings.ensures)
    ∙ slice_get-get_or c.as_slice-landings.result.now i c.index-landings-number.result (rw c.as_slice-landings.ensures (omega (arith, less, landed))) ∙ ap Some (sym c.index-landings-number.is) in
    let own : slice_get c.args.text.now.sites i ≡ Some c.index-addresses-number.result =
    ap (λ (all : List (List ℕ)). slice_get all i) (sym c.as_slice-addresses.ensures)
    ∙ slice_get-get_or c.as_slice-addresses.result.now i c.index-addresses-number.result (rw c.as_slice-addresses.ensures (omega (arith, less, sited))) ∙ ap Some (sym c.index-addresses-number.is) in
    let rest = zip c.args.places.now (zip c.args.text.now.landings c.args.text.now.sites) in
    let value = value_at c.args.text.now.procedures c.args.labels.now in
    let at_i =
    zip_get c.args.procs.now rest i c.index-procs-number.result (c.index-places-number.result, (c.index-landings-number.result, c.index-addresses-number.result)) p
    (zip_get c.args.places.now (zip c.args.text.now.landings c.args.text.now.sites) i c.index-places-number.result (c.index-landings-number.result, c.index-addresses-number.result) k
    (zip_get c.args.text.now.landings c.args.text.now.sites i c.index-landings-number.result c.index-addresses-number.result lands own)) in
    let made : c.in_ok-sites.sites ≡ unplaced_sites c.index-procs-number.result (local_place c.index-places-number.result.locals) i =
    c.in_ok-sites.ensures ∙ ap (λ (places : List Location). unplaced_sites c.index-procs-number.result (local_place places) i) c.as_slice.ensures in
    let placed : List ℕ → List UnplacedSite → List ℕ → List SiteRow =
    λ landings sites addresses. map (λ (of : UnplacedSite × ℕ). placed_site (λ k. slice_index landings k) value of.1 of.0) (zip sites addresses) in (
      c.in_ok-add_sites.ensures.rows
          ∙ ap (λ (landings : List ℕ). c.loop-number.rows.items ++ placed landings c.in_ok-sites.sites c.as_slice-in-loop-number-2.result.now) c.as_slice-in-loop-number-3.ensures
          ∙ ap (λ (addresses : List ℕ). c.loop-number.rows.items ++ placed c.index-landings-number.result c.in_ok-sites.sites addresses) c.as_slice-in-loop-number-2.ensures
          ∙ ap (λ (sites : List UnplacedSite). c.loop-number.rows.items ++ placed c.index-landings-number.result sites c.index-addresses-number.result) made
          ∙ ap (λ (rows : List SiteRow). rows ++ sites_of value i c.index-procs-number.result c.index-places-number.result c.index-landings-number.result c.index-addresses-number.result)
          c.loop-number.invariant.0
          ∙ flat_more (placed_sites value) i (zip c.args.procs.now rest) _ at_i,
      c.in_ok-add_sites.ensures.small c.loop-number.invariant.1,
    )

pub returns-clause-rows : goal.returns-clause-rows
returns-clause-rows c =
    let rest = zip c.args.places.now (zip c.args.text.now.landings c.args.text.now.sites) in
    let past = c.loop-number-test.false in
    let whole = take_all c.loop-number.number (zip c.args.procs.now rest) (omega (arith, past, length-zip c.args.procs.now rest)) in
    c.loop-number.invariant.0
    ∙ ap (λ xs. flat_map (placed_sites (value_at c.args.text.now.procedures c.args.labels.now)) (enumerate_from 0 xs)) whole
