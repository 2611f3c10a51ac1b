use Rattle.std.proofs.Common.{◌≡◌, map, take}
use Rattle.cmm_tables.specs.ProcedureRows.{parameter_row}
use Rattle.cmm_link.proofs.procedures.parameters.Given as goal

abbrev pub invariant-loop-v : goal.invariant-loop-v
invariant-loop-v l = l.rows ≡ map parameter_row (take l.v-index l.params)
