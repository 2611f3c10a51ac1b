use Rattle.std.proofs.Common.{◌≡◌, ◌++◌, map, take, All}
use Rattle.cmm_link.specs.inside.Named.{IsNamedLabel}
use Rattle.cmm_link.proofs.labels.add_exports.Given as goal

abbrev pub invariant-loop-link : goal.invariant-loop-link
invariant-loop-link l = (l.rows.items ≡ l.initial.rows.items ++ map (λ name. record { name = name; address = l.address }) (take l.link-index l.links)) × (All IsNamedLabel l.initial.rows.items → All IsNamedLabel l.rows.items)
