use Rattle.std.proofs.Common.{◌≡◌, take}
use Rattle.std.specs.Prelude.{flat_map}
use Rattle.cmm_symbols.specs.Noted.{long_of}
use Rattle.cmm_symbols.proofs.long.note_each.Given as goal

abbrev pub invariant-loop-item : goal.invariant-loop-item
invariant-loop-item g l = l.best ≡ long_of l.fn.best (flat_map g.T.HasNames.names (take l.item-index l.items))
