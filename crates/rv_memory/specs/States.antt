-- The state of a machine whose registers and memory are these.
use Rattle.std.specs.Prelude.{ℕ}
use Rattle.rv_table.specs.declared.registers.Regs.{Regs}
use Rattle.rv_table.specs.Machine.{State}
use Rattle.rv_table.specs.Registers.{registers_of}
use Rattle.rv_memory.specs.Regions.{Regions, memory_of}

abbrev pub state_with : Regs → (ℕ → ℕ) → State
state_with r memory = record { registers = registers_of r; pc = r.pc; memory = memory }

abbrev pub state_of : Regs → Regions → State
state_of r m = state_with r (memory_of m)
