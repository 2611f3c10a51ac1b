use Rattle.std.proofs.Common.{◌≡◌, ◌++◌, map, drop}
use Rattle.cmm_static_semantics.specs.Declarations.{entries_from}
use Rattle.cmm_symbols.specs.Shown.{alone, shown}
use Rattle.cmm_symbols.proofs.declaring.declared_in.Given as goal

-- what is declared so far, and then what the rest declares, is what all do
abbrev pub invariant-loop-thing : goal.invariant-loop-thing
invariant-loop-thing l =
    map shown l.declared ++ entries_from l.numbers.procedures l.numbers.labels (map alone (drop l.thing-index l.things)) ≡ entries_from l.fn.first.procedures l.fn.first.labels (map alone l.things)
