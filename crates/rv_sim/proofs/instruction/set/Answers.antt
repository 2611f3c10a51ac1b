use Rattle.std.proofs.Common.{◌+◌, ap}
use Rattle.rv_table.specs.Registers.{registers_of, with_register}
use Rattle.rv_sim.proofs.States.{state-same}
use Rattle.rv_sim.proofs.instruction.set.Goals as goal

pub returns-clause-state : goal.returns-clause-state
returns-clause-state c memory =
    state-same (registers_of c.write.new.self) (with_register (registers_of c.args.r.now) c.args.rd c.args.value)
    (c.write.new.self.pc + 4) (c.args.r.now.pc + 4) memory c.write.ensures.register (ap (λ pc. pc + 4) c.write.ensures.pc)
