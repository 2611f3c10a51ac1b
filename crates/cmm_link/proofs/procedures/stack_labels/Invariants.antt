use Rattle.std.proofs.Common.{◌≡◌, map, take}
use Rattle.cmm_tables.specs.ProcedureRows.{stack_label_row}
use Rattle.cmm_link.proofs.procedures.stack_labels.Given as goal

abbrev pub invariant-loop-offset : goal.invariant-loop-offset
invariant-loop-offset l = l.rows ≡ map stack_label_row (take l.offset-index l.offsets)
