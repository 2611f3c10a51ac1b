use Rattle.std.proofs.Common.{◌≡◌, take}
use Rattle.cmm_symbols.specs.Noted.{long_of}
use Rattle.cmm_symbols.proofs.long.note_names.Given as goal

abbrev pub invariant-loop-name : goal.invariant-loop-name
invariant-loop-name l = l.best ≡ long_of l.fn.best (take l.name-index l.names)
