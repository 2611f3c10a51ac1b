-- Where operands come from, in the activation whose frame is at the address in register 2.
use Rattle.std.specs.Prelude.{ℕ, ◌+◌, ◌^◌, ◌<◌}
use Rattle.cmm_abi.specs.declared.registers.TheConstants.{FRAME}
use Rattle.rv_table.specs.Machine.{MemoryMap, State}
use Rattle.cmm_effects.specs.Changes.{CanReach, IsPlace, read_at}
use Rattle.cmm_select.specs.declared.source.Source.{Source}
use Rattle.cmm_select.specs.declared.source.Source.TheVariants.{Place, Number, Address}

-- a place, any number of 64 bits, or an address less than 2 MiB above the frame's
abbrev pub IsSource : Source → Type 0
IsSource (Place p) = IsPlace p
IsSource (Number n) = Unit {0}
IsSource (Address o) = o < 2 ^ 21

-- the operand
abbrev pub brought : Source → State → ℕ
brought (Place p) s = read_at p s
brought (Number n) s = n
brought (Address o) s = s.registers FRAME + o

-- instructions bring it: a place is reached, and an address has 64 bits
abbrev pub CanBring : Source → MemoryMap → State → Type 0
CanBring (Place p) m s = CanReach p m s
CanBring (Number n) m s = Unit {0}
CanBring (Address o) m s = s.registers FRAME + o < 2 ^ 64
