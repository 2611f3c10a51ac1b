use Rattle.std.proofs.Common.{◌≡◌, ◌+◌, ◌++◌, map, take}
use Rattle.std.specs.Prelude.{flat_map}
use Rattle.cmm_static_semantics.specs.Items.{top_items}
use Rattle.cmm_elaboration.specs.Data.{datums_among, unit_labels}
use Rattle.cmm_lower_parts.specs.Held.{held, label_held}
use Rattle.cmm_lower_parts.proofs.labels.add_labels.Given as goal

abbrev pub invariant-loop-part : goal.invariant-loop-part
invariant-loop-part l =
    (l.number ≡ held (l.first + datums_among (flat_map top_items (take l.part-index l.part-items))))
    × (l.to ≡ l.initial.to ++ map label_held (unit_labels (map (λ e. e.now) l.links.exports.now) l.first (take l.part-index l.part-items)))
