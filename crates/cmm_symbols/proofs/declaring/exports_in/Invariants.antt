use Rattle.std.proofs.Common.{◌≡◌, map, take}
use Rattle.std.specs.Prelude.{flat_map}
use Rattle.cmm_static_semantics.specs.Linking.{item_exports}
use Rattle.cmm_symbols.specs.Shown.{thing_item}
use Rattle.cmm_symbols.proofs.declaring.exports_in.Given as goal

abbrev pub invariant-loop-thing : goal.invariant-loop-thing
invariant-loop-thing l = map (λ e. e.now) l.exports ≡ flat_map item_exports (map thing_item (take l.thing-index l.things))
