use Rattle.std.proofs.Common.{◌≡◌, ap, ◌∙◌}
use Rattle.rv_memory.specs.Regions.{region_of}
use Rattle.rv_memory.specs.States.{state_of}
use Rattle.cmm_abi.specs.Regions.{with_values}
use Rattle.cmm_image_machine.specs.Changes.{at_pc, unwound}
use Rattle.cmm_walk.specs.Activations.{element_of}
use Rattle.cmm_resume.proofs.unwinding.unwind_to.Goals as goal

pub returns-clause-state : goal.returns-clause-state
returns-clause-state c i =
    let s = state_of c.args.r.now c.args.m.now in
    let r = region_of c.args.m.now in
    let e = element_of i c.args.a.now in
    let restored : state_of c.restore.new.r c.args.m.now ≡ record s { registers = unwound e s } =
    (λ j. record { registers = c.restore.ensures.registers j; pc = c.restore.ensures.pc j; memory = s.memory }) in
    c.resume_at.ensures.state ∙ ap (λ t. at_pc c.args.landing (with_values r c.args.values.now t)) restored
