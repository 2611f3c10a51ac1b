-- The numbers of the kinds of trap.
use Rattle.std.specs.Prelude.{ℕ}
use Rattle.rv_table.specs.declared.trap.TrapKind.{TrapKind}
use Rattle.rv_table.specs.declared.trap.TrapKind.TheVariants.{NoInstruction, BadTarget, BadLoad, BadStore, Breakpoint, NoRequest}

abbrev pub trap_number : TrapKind → ℕ
trap_number NoInstruction = 1
trap_number BadTarget = 2
trap_number BadLoad = 3
trap_number BadStore = 4
trap_number Breakpoint = 5
trap_number NoRequest = 6
