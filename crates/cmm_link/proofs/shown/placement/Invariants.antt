use Rattle.std.proofs.Common.{◌≡◌, map, take}
use Rattle.cmm_image_machine.specs.Tables.{place_row_of}
use Rattle.cmm_link.proofs.shown.placement.Given as goal

abbrev pub invariant-loop-procedure : goal.invariant-loop-procedure
invariant-loop-procedure l = l.rows ≡ map place_row_of (take l.procedure-index l.procedure-items)
