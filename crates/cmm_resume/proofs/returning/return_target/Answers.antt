use Rattle.std.proofs.Common.{sym, subst}
use Rattle.rv_memory.specs.Regions.{region_of}
use Rattle.rv_memory.specs.States.{state_of}
use Rattle.cmm_abi.specs.Regions.{with_values}
use Rattle.cmm_image_machine.specs.Changes.{at_pc}
use Rattle.cmm_image_machine.specs.Frames.{first_point}
use Rattle.cmm_walk.specs.Activations.{element_of}
use Rattle.cmm_walk.specs.Walking.{break_of}
use Rattle.cmm_walk.proofs.Shared.{returns_there}
use Rattle.cmm_resume.specs.Answering.{Change}
use Rattle.cmm_resume.specs.Finding.{Finds}
use Rattle.cmm_resume.proofs.ReturnLaws as at
use Rattle.cmm_resume.proofs.returning.return_target.Goals as goal

pub returns-in-Ok-Some-clause-finds : goal.returns-in-Ok-Some-clause-finds
returns-in-Ok-Some-clause-finds c =
    let i = c.args.i.now in
    let region = region_of c.args.m.now in
    let s = state_of c.args.r.now c.args.m.now in
    let e = element_of i c.in-Ok-Some.a in
    let found = rw (c.in-Ok-Some.is, c.in-Ok-Some.field-0-is) at c.youngest.ensures.found in
    subst (λ (change : Change). Finds change (λ address. at_pc address (with_values region c.args.values.now s)) c.exit_address.result)
    (sym (at.returns_there i c.youngest.ensures.kept region s c.args.exit c.args.values.now e found))
    (c.exit_address.ensures.finds region s (returns_there i region (first_point s) e (sym found)))

pub returns-in-Ok-None-clause-finds : goal.returns-in-Ok-None-clause-finds
returns-in-Ok-None-clause-finds c =
    let found = rw (c.in-Ok-None.is, c.in-Ok-None.field-0-is) at c.youngest.ensures.found in
    at.returns_nowhere c.args.i.now c.youngest.ensures.kept (region_of c.args.m.now) (state_of c.args.r.now c.args.m.now) c.args.exit c.args.values.now found

pub returns-in-Err-clause-finds : goal.returns-in-Err-clause-finds
returns-in-Err-clause-finds c =
    let found = rw c.in-Err.is at c.youngest.ensures.found in
    at.return_tears c.args.i.now c.youngest.ensures.kept (region_of c.args.m.now) (state_of c.args.r.now c.args.m.now) c.args.exit c.args.values.now (break_of c.in-Err.torn) found
