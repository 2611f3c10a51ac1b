use Rattle.std.proofs.Common.{◌≡◌, map, take, All}
use Rattle.cmm_image_machine.specs.Tables.{global_row}
use Rattle.cmm_link.specs.inside.Named.{IsNamedGlobal}
use Rattle.cmm_link.proofs.globals.global_rows.Given as goal

abbrev pub invariant-loop-register : goal.invariant-loop-register
invariant-loop-register l = (l.rows ≡ map global_row (take l.register-index l.globals)) × All IsNamedGlobal l.rows
