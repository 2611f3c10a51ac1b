use Rattle.std.proofs.Common.{◌≡◌, [], map, slice_index_or}
use Rattle.std.specs.List.{range_with_len}
use Rattle.cmm_bitset.specs.Sets.{has}
use Rattle.cmm_tables.specs.SiteRows.{local_place, place_while}
use Rattle.cmm_tables.proofs.rows.variable_places.Given as goal

abbrev pub invariant-loop-number : goal.invariant-loop-number
invariant-loop-number l = l.rows ≡ map (λ v. place_while (has (slice_index_or l.live l.site []) v) (local_place l.places v)) (range_with_len 0 l.number)
