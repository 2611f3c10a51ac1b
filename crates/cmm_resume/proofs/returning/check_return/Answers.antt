use Rattle.std.proofs.Common.{length, ap, ◌∙◌, arith}
use Rattle.cmm_image.specs.declared.rows.ProcRow.{ProcRow}
use Rattle.cmm_image.specs.declared.rows.SiteRow.{SiteRow}
use Rattle.cmm_image.specs.Sites.{site_numbered}
use Rattle.cmm_walk.proofs.Shared.{site_bounds}
use Rattle.cmm_resume.specs.Finding.{checked, continuation_widths, taken}
use Rattle.cmm_resume.proofs.Tables.{continuation_few, on_ok_le, widths_few}
use Rattle.cmm_resume.proofs.returning.check_return.Goals as goal

pub returns-in-Some-clause-few : goal.returns-in-Some-clause-few
returns-in-Some-clause-few c =
    continuation_few c.args.i.now c.site_at-site.ensures.kept c.args.a.now.proc c.in-Some.continuation.now c.args.values.now c.check_continuation.result
    (c.check_continuation.ensures ∙ ap (λ (p : ProcRow). checked (continuation_widths p c.in-Some.continuation.now) c.args.values.now) c.procedure_of.ensures.row)

pub returns-in-Some-clause-near : goal.returns-in-Some-clause-near
returns-in-Some-clause-near c =
    let few = (site_bounds c.args.i.now c.site_at-site.ensures.kept c.args.a.now.site c.requires.site).returns in
    let within = rw c.site_at-site.ensures.row at c.in-Some.ensures.within in
    on_ok_le c.check_continuation.result c.args.exit 64 (omega (arith, few, within))

pub returns-then-not-site-clause-few : goal.returns-then-not-site-clause-few
returns-then-not-site-clause-few c =
    let few = (site_bounds c.args.i.now c.site_at-site.ensures.kept c.args.a.now.site c.requires.site).results in
    widths_few (site_numbered c.args.i.now.sites c.args.a.now.site).results c.args.values.now c.check_widths.result few
    (c.check_widths.ensures ∙ ap (λ ws. taken ws c.args.values.now) (c.as_slice.ensures ∙ ap (λ (s : SiteRow). s.results) c.site_at-site.ensures.row))

pub returns-then-not-site-clause-near : goal.returns-then-not-site-clause-near
returns-then-not-site-clause-near c =
    let few = (site_bounds c.args.i.now c.site_at-site.ensures.kept c.args.a.now.site c.requires.site).returns in
    let same = c.if-exit-len.true ∙ c.len.ensures ∙ ap (λ (s : SiteRow). length s.returns) c.site_at-site.ensures.row in
    on_ok_le c.check_widths.result c.args.exit 64 (omega (arith, few, same))
