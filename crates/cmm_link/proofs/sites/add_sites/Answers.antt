use Rattle.std.proofs.Common.{◌≡◌, ℕ, All, List, ◌++◌, map, subst, ap, sym, ◌∙◌}
use Rattle.std.specs.List.{zip}
use Rattle.std.specs.Prelude.{slice_index}
use Rattle.std.proofs.lemmas.Iterator.{YieldsList-from_slice, YieldsList-from_zip}
use Rattle.std.proofs.lemmas.Iterator.Adapters.{YieldsList-from_vec}
use Rattle.std.proofs.lemmas.Iterator.Consumers.{YieldsList-end}
use Rattle.std.proofs.lemmas.List.Elements.{All-push}
use Rattle.std.proofs.lemmas.Simd.{map-map}
use Rattle.cmm_image.specs.declared.rows.SiteRow.{SiteRow}
use Rattle.cmm_tables.specs.declared.unplaced.UnplacedSite.{UnplacedSite}
use Rattle.cmm_tables.specs.SiteRows.{placed_site}
use Rattle.cmm_link.specs.inside.Named.{HasSmallSpans}
use Rattle.cmm_link.specs.inside.Values.{value_at}
use Rattle.cmm_link.proofs.Listed.{pushed_behind}
use Rattle.cmm_link.proofs.sites.add_sites.Goals as goal

pub loop-site-preserved : goal.loop-site-preserved
loop-site-preserved c =
    let row = c.in_ok-placed.field-0 in
    let is : row ≡ placed_site (λ k. slice_index c.args.landings.now k) (value_at c.args.text.now.procedures c.args.labels.now) c.in-Some.address.now c.in-Some.site =
    c.in_ok-placed.ensures.row
    ∙ ap (λ (codes : List ℕ). placed_site (λ k. slice_index c.args.landings.now k) (value_at codes c.args.labels.now) c.in-Some.address.now c.in-Some.site) c.as_slice-codes.ensures
    in (
      c.in_ok-push.ensures.items
          ∙ pushed_behind c.args.rows.now.items (λ y. placed_site (λ k. slice_index c.args.landings.now k) (value_at c.args.text.now.procedures c.args.labels.now) y.1.now y.0) c.loop-site.yielded _
          c.loop-site.rows.items row c.loop-site.invariant.0 is,
      λ before. subst (λ (rows : List SiteRow). All HasSmallSpans rows) (sym c.in_ok-push.ensures.items)
          (All-push HasSmallSpans c.loop-site.rows.items row (c.loop-site.invariant.1 before) c.in_ok-placed.ensures.small),
    )

pub returns-clause-rows : goal.returns-clause-rows
returns-clause-rows c =
    let make : UnplacedSite × ℕ → SiteRow = λ of. placed_site (λ k. slice_index c.args.landings.now k) (value_at c.args.text.now.procedures c.args.labels.now) of.1 of.0 in
    let road = YieldsList-from_zip (YieldsList-from_vec c.into_vec.result.items (cc) (cc)) (YieldsList-from_slice c.args.addresses.now (cc)) in
    let e = YieldsList-end road c.loop-site.yielded _ c.loop-site.yielded_by _ c.next.new.self c.in-None.is c.next.ensures.steps in
    c.loop-site.invariant.0
    ∙ ap (λ (rows : List SiteRow). c.args.rows.now.items ++ rows)
    (sym (map-map make (λ y. (y.0, y.1.now)) c.loop-site.yielded) ∙ ap (map make) e.0
    ∙ ap (λ (sites : List UnplacedSite). map make (zip sites c.args.addresses.now)) c.into_vec.ensures)
