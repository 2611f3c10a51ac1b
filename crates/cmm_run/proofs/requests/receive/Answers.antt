use Rattle.std.proofs.Common.{◌+◌, ap, ◌∙◌}
use Rattle.cmm_abi.specs.declared.registers.TheConstants.{REQUEST_VALUE}
use Rattle.rv_memory.specs.Regions.{memory_of}
use Rattle.rv_memory.specs.States as states
use Rattle.rv_table.specs.Machine.{with_set}
use Rattle.cmm_client.specs.declared.stopped.Thread.{Thread}
use Rattle.cmm_run.proofs.requests.receive.Goals as goal

pub returns-clause-state : goal.returns-clause-state
returns-clause-state c =
    c.go_on.ensures.state
    ∙ (λ i. record { registers = c.write.ensures.register i; pc = c.write.ensures.pc i + 4; memory = memory_of c.running_mut.result.now.memory })
    ∙ ap (λ (t : Thread). with_set (states.state_of t.regs t.memory) REQUEST_VALUE c.args.value) c.running_mut.ensures.value
