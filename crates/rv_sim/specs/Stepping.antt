-- What one instruction does to registers and memory, and the event that it ends in.
use Rattle.std.specs.Prelude.{ℕ}
use Rattle.rv_memory.specs.Regions.{Regions, map_of}
pub use Rattle.rv_memory.specs.States.{state_with, state_of}
use Rattle.rv_sim.specs.declared.event.Event.{Event}
use Rattle.rv_sim.specs.declared.event.Event.TheVariants.{Next, Asks, Trap}
use Rattle.rv_table.specs.declared.registers.Regs.{Regs}
use Rattle.rv_table.specs.Machine as machine
use Rattle.rv_table.specs.Machine.{State, Outcome, instruction_step}

-- what comes of the instruction that stands at pc
abbrev pub outcome_of : Regs → Regions → Outcome
outcome_of r m = instruction_step (map_of m) (state_of r m)

-- the event of what came of the instruction at pc
abbrev pub event_of : ℕ → Outcome → Event
event_of pc (machine.Next _) = Next
event_of pc (machine.Asks request) = Asks request
event_of pc (machine.Traps kind) = Trap (record { kind = kind; pc = pc })

-- the state after an instruction: the next one, or the state as it was where the instruction asks or traps
abbrev pub state_after : State → Outcome → State
state_after s (machine.Next t) = t
state_after s (machine.Asks _) = s
state_after s (machine.Traps _) = s
