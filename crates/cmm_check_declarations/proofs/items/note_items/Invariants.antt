use Rattle.std.proofs.Common.{◌≡◌, map, take}
use Rattle.std.specs.Prelude.{flat_map}
use Rattle.cmm_static_semantics.specs.Spots.{first_of}
use Rattle.cmm_static_semantics.specs.Units.{item_spots}
use Rattle.cmm_symbols.specs.Shown.{thing_item}
use Rattle.cmm_check_declarations.proofs.items.note_items.Given as goal

abbrev pub invariant-loop-thing : goal.invariant-loop-thing
invariant-loop-thing g l = l.best ≡ first_of l.fn.best (flat_map (item_spots (g.N.Names.senses l.names)) (map thing_item (take l.thing-index l.things)))
