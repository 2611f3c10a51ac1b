use Rattle.std.proofs.Common.{◌≡◌, map, take}
use Rattle.cmm_tables.specs.SiteRows.{continuation_number}
use Rattle.cmm_tables.proofs.rows.continuation_numbers.Given as goal

abbrev pub invariant-loop-k : goal.invariant-loop-k
invariant-loop-k l = l.numbers ≡ map continuation_number (take l.k-index l.continuations)
