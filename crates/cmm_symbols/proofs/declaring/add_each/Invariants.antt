use Rattle.std.proofs.Common.{◌≡◌, ◌++◌, map, take}
use Rattle.cmm_static_semantics.specs.Declarations.{each_as}
use Rattle.cmm_symbols.specs.Shown.{shown, entry_shown}
use Rattle.cmm_symbols.proofs.declaring.add_each.Given as goal

abbrev pub invariant-loop-name : goal.invariant-loop-name
invariant-loop-name l = map shown l.to ≡ map shown l.initial.to ++ each_as (entry_shown l.what) (take l.name-index l.names)
