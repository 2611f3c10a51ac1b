use Rattle.std.proofs.Common.{◌≡◌, ◌++◌, List, map, take}
use Rattle.std.specs.Prelude.{flat_map}
use Rattle.cmm_static_semantics.specs.Items.{SpanTree, item_within}
use Rattle.cmm_symbols.specs.Shown.{thing_item, whats}
use Rattle.cmm_symbols.proofs.thing.+things.Given as goal

abbrev pub invariant-add_items-loop-item : goal.invariant-add_items-loop-item
invariant-add_items-loop-item l = (spans : List SpanTree) → map thing_item l.to ≡ map thing_item l.initial.to ++ whats (flat_map (item_within spans) (take l.item-index l.items))
