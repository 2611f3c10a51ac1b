use Rattle.std.proofs.Common.{◌≡◌, ◌++◌, map}
use Rattle.std.specs.Prelude.{filter}
use Rattle.std.specs.List.{range_with_len}
use Rattle.cmm_bitset.specs.Sets.{has}
use Rattle.cmm_emit.specs.Labels.{reference_of, symbol_labels}
use Rattle.cmm_emit.specs.Symbols.{AreLabelsOf}
use Rattle.cmm_emit.proofs.symbols.symbols_of_sort.Given as goal

-- those of the numbers so far
abbrev pub invariant-loop-number : goal.invariant-loop-number
invariant-loop-number l = record {
  made : AreLabelsOf (reference_of l.sort) (has l.named) l.number l.references l.made;
  references : l.references ≡ l.initial.references ++ map (reference_of l.sort) (filter (has l.named) (range_with_len 0 l.number));
  labels : l.asm.labels ≡ symbol_labels l.references;
  parts : l.asm.parts ≡ l.initial.asm.parts;
}
