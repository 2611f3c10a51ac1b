use Rattle.std.proofs.Common.{◌≡◌, ℕ, List, [], map, take}
use Rattle.cmm_static_semantics.specs.Declarations.{found, again}
use Rattle.cmm_static_semantics.specs.Spots.{first_of}
use Rattle.cmm_symbols.specs.Indexed.{indexed}
use Rattle.cmm_symbols.specs.Numbering.{numbering}
use Rattle.cmm_symbols.specs.Shown.{named}
use Rattle.cmm_symbols.proofs.table.Table.of.Given as goal

abbrev pub invariant-loop-number : goal.invariant-loop-number
invariant-loop-number g l =
    ((x : List ℕ) → indexed l.index x ≡ found x (numbering (map named (take l.number l.named-items))))
    × (l.best ≡ first_of l.fn.best (again [] (map named (take l.number l.named-items))))
