use Rattle.std.proofs.Common.{◌≡◌, map, take}
use Rattle.cmm_program.specs.Orders.{target_width}
use Rattle.cmm_tables.proofs.rows.widths.Given as goal

abbrev pub invariant-loop-target : goal.invariant-loop-target
invariant-loop-target l = l.widths ≡ map target_width (take l.target-index l.results)
