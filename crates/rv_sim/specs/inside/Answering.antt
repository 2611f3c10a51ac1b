-- What the parts of a step answer.
use Rattle.std.specs.Prelude.{Result, Ok, Err}
use Rattle.rv_sim.specs.declared.event.Event.{Event}
use Rattle.rv_sim.specs.declared.event.Event.TheVariants.{Next, Asks}
use Rattle.rv_table.specs.declared.instruction.Instr.{Instr}
use Rattle.rv_table.specs.declared.trap.TrapKind.{TrapKind}
use Rattle.rv_table.specs.Machine as machine
use Rattle.rv_table.specs.Machine.{MemoryMap, State, Outcome, done}
use Rattle.rv_table.specs.Row.{row}

-- the event, or the kind of the trap
abbrev pub answer_of : Outcome → Result Event TrapKind
answer_of (machine.Next _) = Ok Next
answer_of (machine.Asks request) = Ok (Asks request)
answer_of (machine.Traps kind) = Err kind

-- what comes of an instruction that was looked for, or of the trap in its place
abbrev pub found_step : MemoryMap → State → Result Instr TrapKind → Outcome
found_step m s (Ok i) = done m s (row s.registers s.pc i)
found_step m s (Err kind) = machine.Traps kind
