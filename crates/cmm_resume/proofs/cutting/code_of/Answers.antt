use Rattle.std.proofs.Common.{ℕ, Ok, sym, ap, ◌∙◌}
use Rattle.cmm_script.specs.Lines.{resume_line}
use Rattle.cmm_program.specs.Commands.{Resumes}
use Rattle.cmm_image.specs.declared.rows.ProcRow.{ProcRow}
use Rattle.cmm_walk.specs.Activations.{element_of}
use Rattle.cmm_resume.specs.inside.CutPaths.{code_in}
use Rattle.cmm_resume.specs.Finding.{checked, continuation_widths}
use Rattle.cmm_resume.proofs.CutLaws.{cuts_err, cuts_ok, gone_to}
use Rattle.cmm_resume.proofs.Tables.{continuation_few}
use Rattle.cmm_resume.proofs.cutting.code_of.Goals as goal

pub returns-in-Ok-clause-finds : goal.returns-in-Ok-clause-finds
returns-in-Ok-clause-finds c r s to is =
    let e = element_of c.args.i.now c.args.continuation.now.activation in
    let k = c.args.continuation.now.number in
    let values = c.args.values.now in
    let taken = sym (ap (λ (p : ProcRow). checked (continuation_widths p k) values) c.procedure_of-procedure.ensures.row) ∙ sym c.check_continuation.ensures ∙ c.in-Ok.is in
    let code = c.code_at.ensures ∙ ap (λ (p : ProcRow). code_in p k) c.procedure_of-procedure.ensures.row in
    cuts_ok r s e to k values is taken ∙ ap (λ (n : ℕ). Ok record { text = resume_line; after = Resumes (gone_to r s e n values) }) (sym code)

pub returns-in-Ok-clause-few : goal.returns-in-Ok-clause-few
returns-in-Ok-clause-few c =
    rw c.in-Ok.is at (continuation_few c.args.i.now c.procedure_of-procedure.ensures.kept c.args.continuation.now.activation.proc c.args.continuation.now.number c.args.values.now
    c.check_continuation.result
    (c.check_continuation.ensures ∙ ap (λ (p : ProcRow). checked (continuation_widths p c.args.continuation.now.number) c.args.values.now) c.procedure_of-procedure.ensures.row))

pub returns-in-Err-clause-finds : goal.returns-in-Err-clause-finds
returns-in-Err-clause-finds c r s to is =
    let e = element_of c.args.i.now c.args.continuation.now.activation in
    let k = c.args.continuation.now.number in
    let broken = sym (ap (λ (p : ProcRow). checked (continuation_widths p k) c.args.values.now) c.procedure_of-procedure.ensures.row) ∙ sym c.check_continuation.ensures ∙ c.in-Err.is in
    cuts_err r s e to k c.args.values.now is c.in-Err.rule broken
