use Rattle.std.proofs.Common.{◌≡◌, map, take, All}
use Rattle.cmm_tables.specs.SiteRows.{span_row}
use Rattle.cmm_link.specs.inside.Named.{IsSmallSpan}
use Rattle.cmm_link.specs.inside.Values.{value_at}
use Rattle.cmm_link.proofs.sites.span_rows.Given as goal

abbrev pub invariant-loop-token : goal.invariant-loop-token
invariant-loop-token l = (l.rows ≡ map (span_row (value_at l.codes l.labels)) (take l.token-index l.spans)) × All IsSmallSpan l.rows
