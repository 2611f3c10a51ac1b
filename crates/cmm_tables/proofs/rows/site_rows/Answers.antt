use Rattle.std.proofs.Common.{◌≡◌, ◌∙◌, ℕ, ap, sym, slice_get, Some, subst, List}
use Rattle.std.proofs.lemmas.Option.{slice_get-get_or}
use Rattle.cmm_program.specs.declared.procedure.Site.{Site}
use Rattle.cmm_tables.proofs.Listed.{mapped_more}
use Rattle.cmm_tables.specs.SiteRows.{local_place, unplaced_site}
use Rattle.cmm_tables.proofs.rows.site_rows.Goals as goal

pub loop-number-preserved : goal.loop-number-preserved
loop-number-preserved c =
    let f = λ (of : ℕ × Site). unplaced_site c.args.p.now (local_place c.args.places.now) c.args.procedure of.0 of.1 in
    let there : slice_get c.args.p.now.sites c.loop-number.number ≡ Some c.site-item.result =
    subst (λ (sites : List Site). slice_get sites c.loop-number.number ≡ Some c.site-item.result) c.as_slice-site-items.ensures
    (slice_get-get_or c.as_slice-site-items.result.now c.loop-number.number c.site-item.result c.loop-number-test.true ∙ ap Some (sym c.site-item.is)) in
    c.in_ok-push.ensures.ok
    ∙ mapped_more f c.loop-number.number c.args.p.now.sites c.site-item.result c.loop-number.rows c.in_ok-site_row.field-0 there c.loop-number.invariant c.in_ok-site_row.ensures
