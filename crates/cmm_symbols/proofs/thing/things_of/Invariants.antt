use Rattle.std.proofs.Common.{◌≡◌, map, take}
use Rattle.std.specs.Prelude.{flat_map}
use Rattle.cmm_static_semantics.specs.Items.{top_items}
use Rattle.cmm_symbols.specs.Shown.{thing_item, whats}
use Rattle.cmm_symbols.proofs.thing.things_of.Given as goal

abbrev pub invariant-loop-part : goal.invariant-loop-part
invariant-loop-part l = map thing_item l.things ≡ whats (flat_map top_items (take l.part-index l.part-items))
