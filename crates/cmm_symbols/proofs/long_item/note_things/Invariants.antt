use Rattle.std.proofs.Common.{◌≡◌, map, take}
use Rattle.std.specs.Prelude.{flat_map}
use Rattle.cmm_static_semantics.specs.LongNames.{of_item}
use Rattle.cmm_symbols.specs.Noted.{long_of}
use Rattle.cmm_symbols.specs.Shown.{thing_item}
use Rattle.cmm_symbols.proofs.long_item.note_things.Given as goal

abbrev pub invariant-loop-thing : goal.invariant-loop-thing
invariant-loop-thing l = l.best ≡ long_of l.fn.best (flat_map of_item (map thing_item (take l.thing-index l.things)))
