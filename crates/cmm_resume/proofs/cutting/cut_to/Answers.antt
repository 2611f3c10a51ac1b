use Rattle.std.proofs.Common.{◌≡◌, ap, ◌∙◌}
use Rattle.cmm_abi.specs.declared.registers.TheConstants.{FRAME}
use Rattle.rv_table.specs.Registers.{with_register}
use Rattle.rv_memory.specs.Regions.{region_of}
use Rattle.rv_memory.specs.States.{state_of}
use Rattle.cmm_abi.specs.Regions.{with_values}
use Rattle.cmm_image_machine.specs.Changes.{at_pc}
use Rattle.cmm_resume.proofs.cutting.cut_to.Goals as goal

pub returns-clause-state : goal.returns-clause-state
returns-clause-state c =
    let s = state_of c.args.r.now c.args.m.now in
    let r = region_of c.args.m.now in
    let written : state_of c.write.new.self c.args.m.now ≡ record s { registers = with_register s.registers FRAME c.args.target.now.frame } =
    (λ j. record { registers = c.write.ensures.register j; pc = c.write.ensures.pc j; memory = s.memory }) in
    c.resume_at.ensures.state ∙ ap (λ t. at_pc c.args.target.now.code (with_values r c.args.values.now t)) written
