use Rattle.std.proofs.Common.{◌≡◌, map, take}
use Rattle.std.specs.List.{enumerate_from}
use Rattle.cmm_tables.specs.SiteRows.{local_place, unplaced_site}
use Rattle.cmm_tables.proofs.rows.site_rows.Given as goal

abbrev pub invariant-loop-number : goal.invariant-loop-number
invariant-loop-number l = l.rows ≡ map (λ of. unplaced_site l.p (local_place l.places) l.procedure of.0 of.1) (enumerate_from 0 (take l.number l.p.sites))
