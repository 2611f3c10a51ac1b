use Rattle.std.proofs.Common.{sym, ap, ◌∙◌}
use Rattle.rv_memory.specs.Regions.{region_of}
use Rattle.rv_memory.specs.States.{state_of}
use Rattle.cmm_script.specs.Lines.{resume_line}
use Rattle.cmm_program.specs.Commands.{unwinding}
use Rattle.cmm_image_machine.specs.Machine.{askable}
use Rattle.cmm_walk.specs.Activations.{element_of}
use Rattle.cmm_resume.specs.Finding.{landed}
use Rattle.cmm_resume.proofs.Answering.{refused_is, resumes_is}
use Rattle.cmm_resume.proofs.Unwinds.{gone_on, unwinds_are_found}
use Rattle.cmm_resume.proofs.unwinding.resume_unwind.Goals as goal

pub returns-in-Ok-clause-unwinds : goal.returns-in-Ok-clause-unwinds
returns-in-Ok-clause-unwinds c =
    let s = state_of c.args.r.now c.args.m.now in
    let r = region_of c.args.m.now in
    let e = element_of c.args.i.now c.args.a.now in
    let values = c.args.values.now in
    resumes_is (unwinding (askable c.args.i.now r) s e c.args.exit values) resume_line (landed r s e c.in-Ok.landing values) s _
    (unwinds_are_found c.args.i.now r s e c.args.exit values ∙ ap (gone_on r s e values) (sym c.in-Ok.ensures.landing)) (c.unwind_to.ensures.state c.args.i.now)

pub returns-in-Err-clause-unwinds : goal.returns-in-Err-clause-unwinds
returns-in-Err-clause-unwinds c =
    let s = state_of c.args.r.now c.args.m.now in
    let r = region_of c.args.m.now in
    let e = element_of c.args.i.now c.args.a.now in
    let values = c.args.values.now in
    refused_is (unwinding (askable c.args.i.now r) s e c.args.exit values) c.in-Err.rule s
    (unwinds_are_found c.args.i.now r s e c.args.exit values ∙ ap (gone_on r s e values) (sym c.in-Err.ensures.landing))
