use Rattle.std.proofs.Common.{◌≡◌, ◌≤◌, ℕ, List, ◌∙◌, length, refl, subst}
use Rattle.cmm_image.specs.declared.rows.LabelRow.{LabelRow}
use Rattle.cmm_link.specs.Labels.{AreLabelsOf, exports, exports_at}
use Rattle.cmm_link.specs.Linked.{AreSitesOf}
use Rattle.cmm_program.specs.declared.procedure.Proc.{Proc}
use Rattle.cmm_unit_code.specs.Texts.{HasLandings, HasSitesAt}
use Rattle.cmm_link.specs.Rows.{site_rows}
use Rattle.cmm_link.specs.inside.Values.{value_at}
use Rattle.cmm_link.proofs.Ascending.{rows_apart}
use Rattle.std.proofs.lemmas.Slice.Zip.{AllZip-long}
use Rattle.cmm_link.proofs.Short.{parameters_short, sites_short}
use Rattle.cmm_link.proofs.SiteTable.{addresses_are, some_address}
use Rattle.cmm_link.proofs.linking.image_tables.Goals as goal

pub procedure_rows-requires : goal.procedure_rows-requires
procedure_rows-requires c = rw c.as_slice-3.ensures (parameters_short c.args.program.now c.requires.range)

pub site_rows-requires-clause-short : goal.site_rows-requires-clause-short
site_rows-requires-clause-short c = rw c.as_slice-6.ensures (sites_short c.args.program.now c.requires.range)

pub site_rows-requires-clause-landings : goal.site_rows-requires-clause-landings
site_rows-requires-clause-landings c = rw c.as_slice-6.ensures (AllZip-long HasLandings c.args.program.now.procs c.args.text.now.landings c.requires.text.counts)

pub site_rows-requires-clause-sites : goal.site_rows-requires-clause-sites
site_rows-requires-clause-sites c =
    rw c.as_slice-6.ensures (AllZip-long (HasSitesAt (length c.args.text.now.code)) c.args.program.now.procs c.args.text.now.sites c.requires.text.sites)

pub site_rows-requires-clause-apart : goal.site_rows-requires-clause-apart
site_rows-requires-clause-apart c =
    let value = value_at c.args.text.now.procedures c.as_slice-7.result.now in
    let procs = c.args.program.now.procs in
    rw c.as_slice-6.ensures
    (rows_apart c.args.text.now.sites (site_rows value procs c.args.places.now c.args.text.now.landings c.args.text.now.sites) c.requires.text.distinct
    (addresses_are value (length c.args.text.now.code) procs c.args.places.now c.args.text.now.landings c.args.text.now.sites c.requires.frames c.requires.text.counts c.requires.text.sites))

pub site_rows-requires-clause-some : goal.site_rows-requires-clause-some
site_rows-requires-clause-some c =
    rw c.as_slice-6.ensures
    (some_address (value_at c.args.text.now.procedures c.as_slice-7.result.now) (length c.args.text.now.code) c.args.program.now.procs c.args.places.now c.args.text.now.landings c.args.text.now.sites c.requires.text.sites)

pub returns-clause-procedures : goal.returns-clause-procedures
returns-clause-procedures c = c.in_ok-procs.ensures.rows ∙ rw (c.as_slice-3.ensures, c.as_slice-4.ensures, c.as_slice-5.ensures) refl

pub returns-clause-sites : goal.returns-clause-sites
returns-clause-sites c =
    let t = c.args.text.now in
    subst (λ (procs : List Proc). AreSitesOf (site_rows (value_at t.procedures c.args.laid.now.addresses) procs c.args.places.now t.landings t.sites) c.in_ok-sites.sites)
    c.as_slice-6.ensures
    (subst (λ (labels : List ℕ). AreSitesOf (site_rows (value_at t.procedures labels) c.as_slice-6.result.now c.args.places.now t.landings t.sites) c.in_ok-sites.sites)
    c.as_slice-7.ensures c.in_ok-sites.ensures.rows)

pub returns-clause-labels : goal.returns-clause-labels
returns-clause-labels c =
    let labels : exports_at c.as_slice.result.now c.as_slice-2.result.now ≡ exports c.args.program.now =
    rw (c.as_slice.ensures, c.as_slice-2.ensures, c.requires.laid.addresses) refl in
    subst (λ (rows : List LabelRow). AreLabelsOf rows c.in_ok-labels.labels) labels c.in_ok-labels.ensures.rows

pub returns-clause-few : goal.returns-clause-few
returns-clause-few c =
    let labels : exports_at c.as_slice.result.now c.as_slice-2.result.now ≡ exports c.args.program.now =
    rw (c.as_slice.ensures, c.as_slice-2.ensures, c.requires.laid.addresses) refl in
    subst (λ (rows : List LabelRow). length c.in_ok-labels.labels ≤ length rows) labels c.in_ok-labels.ensures.few

pub returns-clause-globals : goal.returns-clause-globals
returns-clause-globals c = c.in_ok-globals.ensures.rows ∙ rw c.as_slice-8.ensures refl

pub returns-clause-small_spans : goal.returns-clause-small_spans
returns-clause-small_spans c = c.in_ok-sites.ensures.small

pub returns-clause-procedure_names : goal.returns-clause-procedure_names
returns-clause-procedure_names c = c.in_ok-procs.ensures.named

pub returns-clause-label_names : goal.returns-clause-label_names
returns-clause-label_names c = c.in_ok-labels.ensures.named

pub returns-clause-global_names : goal.returns-clause-global_names
returns-clause-global_names c = c.in_ok-globals.ensures.named
