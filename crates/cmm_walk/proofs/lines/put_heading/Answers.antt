use Rattle.std.proofs.Common.{ap, ◌∙◌}
use Rattle.cmm_image.specs.declared.rows.ProcRow.{ProcRow}
use Rattle.cmm_image.specs.declared.rows.SiteRow.{SiteRow}
use Rattle.cmm_walk.proofs.lines.put_heading.Goals as goal

pub returns : goal.returns
returns g c =
    let name = c.as_bytes.ensures ∙ ap (λ (p : ProcRow). p.name) c.procedure_of-procedure.ensures.row in
    let number = c.from.ensures ∙ ap (λ (s : SiteRow). s.number) c.site_at-site.ensures.row in
    rw (← name, ← number) c.write_parts.ensures
