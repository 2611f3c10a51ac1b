use Rattle.std.proofs.Common.{◌≡◌, flat_map, take, All}
use Rattle.std.specs.List.{enumerate_from, zip}
use Rattle.cmm_link.specs.Rows.{placed_sites}
use Rattle.cmm_link.specs.inside.Named.{HasSmallSpans}
use Rattle.cmm_link.specs.inside.Values.{value_at}
use Rattle.cmm_link.proofs.sites.all_sites.Given as goal

abbrev pub invariant-loop-number : goal.invariant-loop-number
invariant-loop-number l =
    (l.rows.items ≡ flat_map (placed_sites (value_at l.text.procedures l.labels)) (enumerate_from 0 (take l.number (zip l.procs (zip l.places (zip l.text.landings l.text.sites))))))
    × All HasSmallSpans l.rows.items
