use Rattle.rv_table.specs.Registers.{registers_of}
use Rattle.rv_sim.specs.Stepping.{state_with}
use Rattle.rv_sim.proofs.States.{jumped}
use Rattle.rv_sim.proofs.instruction.jump.Goals as goal

pub returns-clause-state : goal.returns-clause-state
returns-clause-state c memory =
    jumped (state_with c.args.r.now memory) (registers_of c.write.new.self) c.args.rd c.args.link c.args.target c.if-target-ne0.false c.write.ensures.register
