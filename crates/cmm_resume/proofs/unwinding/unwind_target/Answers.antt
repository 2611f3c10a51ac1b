use Rattle.std.proofs.Common.{ap, ◌∙◌}
use Rattle.cmm_image.specs.declared.rows.ProcRow.{ProcRow}
use Rattle.cmm_resume.specs.Finding.{checked, continuation_widths}
use Rattle.cmm_resume.proofs.Tables.{continuation_few}
use Rattle.cmm_resume.proofs.unwinding.unwind_target.Goals as goal

pub returns-in-Ok-clause-few : goal.returns-in-Ok-clause-few
returns-in-Ok-clause-few c =
    rw c.in-Ok.is at (continuation_few c.args.i.now c.site_at.ensures.kept c.args.a.now.proc c.in-Some.unwind.now.continuation c.args.values.now c.check_continuation.result
    (c.check_continuation.ensures ∙ ap (λ (p : ProcRow). checked (continuation_widths p c.in-Some.unwind.now.continuation) c.args.values.now) c.procedure_of.ensures.row))
