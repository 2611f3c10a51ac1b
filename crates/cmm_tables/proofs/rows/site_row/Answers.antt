use Rattle.std.proofs.Common.{◌∙◌, refl, arith}
use Rattle.std.proofs.lemmas.Option.{slice_get_within}
use Rattle.cmm_program.proofs.Shared.{all_get}
use Rattle.cmm_tables.proofs.Listed.{mapped_alike, unplaced_of}
use Rattle.cmm_tables.specs.Premises.{HasShortExits}
use Rattle.cmm_tables.specs.SiteRows.{local_place}
use Rattle.cmm_tables.proofs.rows.site_row.Goals as goal

pub continuation_numbers-requires : goal.continuation_numbers-requires
continuation_numbers-requires c =
    rw c.as_slice-2.ensures (all_get HasShortExits c.args.p.now.sites c.args.number c.args.site.now c.requires.short.exits c.requires.site).returns

pub continuation_numbers-requires-2 : goal.continuation_numbers-requires-2
continuation_numbers-requires-2 c =
    rw c.as_slice-3.ensures (all_get HasShortExits c.args.p.now.sites c.args.number c.args.site.now c.requires.short.exits c.requires.site).unwinds

pub continuation_numbers-requires-3 : goal.continuation_numbers-requires-3
continuation_numbers-requires-3 c =
    rw c.as_slice-4.ensures (all_get HasShortExits c.args.p.now.sites c.args.number c.args.site.now c.requires.short.exits c.requires.site).cuts

pub returns : goal.returns
returns c =
    unplaced_of c.args.p.now (local_place c.args.places.now) c.args.procedure c.args.number c.args.site.now (c.in_ok-widths.ensures ∙ rw c.as_slice.ensures refl)
    (c.in_ok-continuation_numbers.ensures ∙ rw c.as_slice-2.ensures refl) (c.in_ok-continuation_numbers-2.ensures ∙ rw c.as_slice-3.ensures refl)
    (c.in_ok-continuation_numbers-3.ensures ∙ rw c.as_slice-4.ensures refl)
    (c.in_ok-variable_places.ensures ∙ rw c.len.ensures (mapped_alike _ _ 0 _ (λ v less. rw (c.requires.live c.args.number v (slice_get_within c.args.p.now.sites c.args.number c.args.site.now c.requires.site) (omega (arith, less))) refl)))
    (c.in_ok-from_slice.ensures ∙ c.as_slice-5.ensures)
