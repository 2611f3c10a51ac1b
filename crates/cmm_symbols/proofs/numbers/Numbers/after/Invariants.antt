use Rattle.std.proofs.Common.{◌≡◌, ◌+◌, map, drop}
use Rattle.cmm_static_semantics.specs.Declarations.{procs_in, labels_in, sum_of}
use Rattle.cmm_symbols.specs.Shown.{alone}
use Rattle.cmm_symbols.proofs.numbers.Numbers.after.Given as goal

-- what is counted so far, and then the rest, is all
abbrev pub invariant-loop-thing : goal.invariant-loop-thing
invariant-loop-thing l = record {
  procedures : l.numbers.procedures + sum_of procs_in (map alone (drop l.thing-index l.things)) ≡ l.fn.self.procedures + sum_of procs_in (map alone l.things);
  labels : l.numbers.labels + sum_of labels_in (map alone (drop l.thing-index l.things)) ≡ l.fn.self.labels + sum_of labels_in (map alone l.things);
}
