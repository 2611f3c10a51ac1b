use Rattle.std.proofs.Common.{◌≡◌, map, take}
use Rattle.cmm_symbols.specs.Shown.{shown}
use Rattle.cmm_linkage.specs.Registers.{registers_in, register_shown}
use Rattle.cmm_linkage.proofs.register.registers_in.Given as goal

abbrev pub invariant-loop-number : goal.invariant-loop-number
invariant-loop-number l = map register_shown l.registers ≡ registers_in (map shown (take l.number l.table.declared))
