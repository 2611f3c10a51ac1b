use Rattle.std.proofs.Common.{ℕ}
use Rattle.rv_memory.specs.Regions.{region_of}
use Rattle.rv_memory.specs.States.{state_of}
use Rattle.cmm_abi.specs.Regions.{with_values}
use Rattle.cmm_script.specs.Lines.{resume_line}
use Rattle.cmm_program.specs.Commands.{returning}
use Rattle.cmm_image_machine.specs.Changes.{at_pc}
use Rattle.cmm_image_machine.specs.Machine.{askable}
use Rattle.cmm_resume.proofs.Answering.{found_err, resumes_is}
use Rattle.cmm_resume.proofs.returning.resume_return.Goals as goal

pub returns-in-Ok-clause-returns : goal.returns-in-Ok-clause-returns
returns-in-Ok-clause-returns c =
    let region = region_of c.args.m.now in
    let s = state_of c.args.r.now c.args.m.now in
    resumes_is (returning (askable c.args.i.now region) s c.args.exit c.args.values.now) resume_line (at_pc c.in-Ok.address (with_values region c.args.values.now s)) s _
    c.in-Ok.ensures.finds c.resume_at.ensures.state

pub returns-in-Err-clause-returns : goal.returns-in-Err-clause-returns
returns-in-Err-clause-returns c =
    let region = region_of c.args.m.now in
    let s = state_of c.args.r.now c.args.m.now in
    found_err {T = ℕ} (returning (askable c.args.i.now region) s c.args.exit c.args.values.now) (λ address. at_pc address (with_values region c.args.values.now s)) s c.in-Err.refusal
    c.in-Err.ensures.finds
