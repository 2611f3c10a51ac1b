use Rattle.std.proofs.Common.{◌≡◌, map, All}
use Rattle.cmm_link.specs.Rows.{placed_procedure}
use Rattle.cmm_link.specs.inside.Named.{IsNamed}
use Rattle.cmm_link.proofs.procedures.procedure_rows.Given as goal

abbrev pub invariant-loop-q : goal.invariant-loop-q
invariant-loop-q l = (l.rows ≡ map (λ y. placed_procedure (y.0.now, (y.1.0.now, (y.1.1.0.now, y.1.1.1.now)))) l.yielded) × All IsNamed l.rows
