use Rattle.std.proofs.Common.{◌≡◌, ◌++◌, map, take}
use Rattle.std.specs.Prelude.{flat_map}
use Rattle.cmm_elaboration.specs.Data.{item_datums}
use Rattle.cmm_symbols.specs.Shown.{thing_item}
use Rattle.cmm_lower_parts.specs.Held.{datum_held}
use Rattle.cmm_lower_parts.proofs.data.add_datums.Given as goal

abbrev pub invariant-loop-thing : goal.invariant-loop-thing
invariant-loop-thing g l = l.to ≡ l.initial.to ++ map datum_held (flat_map (item_datums (g.N.Names.senses l.names)) (map thing_item (take l.thing-index l.things)))
