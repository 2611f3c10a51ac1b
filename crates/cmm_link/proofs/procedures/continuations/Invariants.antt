use Rattle.std.proofs.Common.{◌≡◌, map}
use Rattle.cmm_tables.specs.ProcedureRows.{continuation_row}
use Rattle.cmm_link.proofs.procedures.continuations.Given as goal

abbrev pub invariant-loop-cont : goal.invariant-loop-cont
invariant-loop-cont l = l.rows ≡ map (λ y. continuation_row (y.0.now, (y.1.0.now, y.1.1.now))) l.yielded
