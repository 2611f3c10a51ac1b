use Rattle.std.proofs.Common.{◌≡◌, ◌+◌, ◌-◌, ◌*◌, ◌++◌}
use Rattle.cmm_allocate.specs.inside.Laying.{pairs_from}
use Rattle.cmm_allocate.proofs.layout.lay_pairs.Given as goal

abbrev pub invariant-loop : goal.invariant-loop
invariant-loop l = (l.at ≡ l.from + 16 * l.counter) × (l.pairs.items ++ pairs_from l.at (l.count - l.counter) ≡ pairs_from l.from l.count)
