use Rattle.std.proofs.Common.{◌≡◌, ◌++◌, map, All}
use Rattle.std.specs.Prelude.{slice_index}
use Rattle.cmm_tables.specs.SiteRows.{placed_site}
use Rattle.cmm_link.specs.inside.Named.{HasSmallSpans}
use Rattle.cmm_link.specs.inside.Values.{value_at}
use Rattle.cmm_link.proofs.sites.add_sites.Given as goal

abbrev pub invariant-loop-site : goal.invariant-loop-site
invariant-loop-site l =
    (l.rows.items ≡ l.initial.rows.items ++ map (λ y. placed_site (λ k. slice_index l.landings k) (value_at l.text.procedures l.labels) y.1.now y.0) l.yielded)
    × (All HasSmallSpans l.initial.rows.items → All HasSmallSpans l.rows.items)
