use Rattle.std.proofs.Common.{◌≡◌, map, flat_map}
use Rattle.cmm_image.proofs.second_reading.tables_of.Given as goal

abbrev pub invariant-loop-next : goal.invariant-loop-next
invariant-loop-next l = (l.rows.items ≡ map (λ r. r.row) l.yielded) × (l.sites.items ≡ flat_map (λ r. r.sites) l.yielded)
