use Rattle.std.proofs.Common.{◌≡◌, map, take}
use Rattle.std.specs.Prelude.{flat_map}
use Rattle.cmm_static_semantics.specs.Spots.{first_of}
use Rattle.cmm_static_semantics.specs.Units.{target_decl_spots}
use Rattle.cmm_symbols.specs.Shown.{thing_item}
use Rattle.cmm_check_units.proofs.target.note_targets.Given as goal

abbrev pub invariant-loop-thing : goal.invariant-loop-thing
invariant-loop-thing l = l.best ≡ first_of l.fn.best (flat_map target_decl_spots (map thing_item (take l.thing-index l.things)))
