use Rattle.std.proofs.Common.{◌≡◌, flat_map, All}
use Rattle.cmm_link.specs.Labels.{label_exports}
use Rattle.cmm_link.specs.inside.Named.{IsNamedLabel}
use Rattle.cmm_link.proofs.labels.exported.Given as goal

abbrev pub invariant-loop-label : goal.invariant-loop-label
invariant-loop-label l = (l.rows.items ≡ flat_map (λ y. label_exports (y.0.now, y.1.now)) l.yielded) × All IsNamedLabel l.rows.items
