use Rattle.std.proofs.Common.{◌≡◌, map, take}
use Rattle.cmm_symbols.specs.Noted.{long_of}
use Rattle.cmm_symbols.proofs.long_item.note_imports.Given as goal

abbrev pub invariant-loop-import : goal.invariant-loop-import
invariant-loop-import l = l.best ≡ long_of l.fn.best (map (λ i. i.name) (take l.import-index l.imports))
