use Rattle.std.proofs.Common.{◌≡◌, ◌++◌, map, take}
use Rattle.cmm_static_semantics.specs.Declarations.{import_entry}
use Rattle.cmm_symbols.specs.Shown.{shown}
use Rattle.cmm_symbols.proofs.declaring.add_imports.Given as goal

abbrev pub invariant-loop-import : goal.invariant-loop-import
invariant-loop-import l = map shown l.to ≡ map shown l.initial.to ++ map import_entry (take l.import-index l.imports)
