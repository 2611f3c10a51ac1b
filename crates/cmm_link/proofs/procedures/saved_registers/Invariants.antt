use Rattle.std.proofs.Common.{◌≡◌, map, take}
use Rattle.cmm_tables.specs.ProcedureRows.{saved_row}
use Rattle.cmm_link.proofs.procedures.saved_registers.Given as goal

abbrev pub invariant-loop-register : goal.invariant-loop-register
invariant-loop-register l = l.rows ≡ map saved_row (take l.register-index l.saved)
