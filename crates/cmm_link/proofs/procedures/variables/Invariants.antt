use Rattle.std.proofs.Common.{◌≡◌, map, take, All}
use Rattle.cmm_image_machine.specs.Tables.{variable_row}
use Rattle.cmm_link.specs.inside.Named.{HasByteKind}
use Rattle.cmm_link.proofs.procedures.variables.Given as goal

abbrev pub invariant-loop-v : goal.invariant-loop-v
invariant-loop-v l = (l.rows ≡ map variable_row (take l.v-index l.vars)) × All HasByteKind l.rows
