use Rattle.rv_memory.specs.Regions.{region_of}
use Rattle.rv_memory.specs.States.{state_of}
use Rattle.cmm_script.specs.Lines.{resume_line}
use Rattle.cmm_program.specs.Commands.{cutting}
use Rattle.cmm_image_machine.specs.Machine.{askable}
use Rattle.cmm_resume.specs.declared.cutting.CutTarget.{CutTarget}
use Rattle.cmm_resume.specs.Cuts.{gone}
use Rattle.cmm_resume.proofs.Answering.{found_err, resumes_is}
use Rattle.cmm_resume.proofs.cutting.resume_cut.Goals as goal

pub returns-in-Ok-clause-cuts : goal.returns-in-Ok-clause-cuts
returns-in-Ok-clause-cuts c =
    let region = region_of c.args.m.now in
    let s = state_of c.args.r.now c.args.m.now in
    resumes_is (cutting (askable c.args.i.now region) s c.args.to c.args.values.now) resume_line (gone region s c.in-Ok.target c.args.values.now) s _
    c.in-Ok.ensures.finds c.cut_to.ensures.state

pub returns-in-Err-clause-cuts : goal.returns-in-Err-clause-cuts
returns-in-Err-clause-cuts c =
    let region = region_of c.args.m.now in
    let s = state_of c.args.r.now c.args.m.now in
    found_err {T = CutTarget} (cutting (askable c.args.i.now region) s c.args.to c.args.values.now) (λ target. gone region s target c.args.values.now) s c.in-Err.refusal
    c.in-Err.ensures.finds
