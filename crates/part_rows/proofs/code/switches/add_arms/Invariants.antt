use Rattle.std.proofs.Common.{◌≡◌, ◌+◌, ◌*◌, ◌≤◌, ◌++◌, length}
use Rattle.std.specs.List.{All}
use Rattle.rv_asm.specs.Assembly.{IsInner}
use Rattle.rv_asm.specs.Sizes.{all_longest}
use Rattle.part_rows.specs.Labels.{placed}
use Rattle.part_rows.proofs.code.switches.add_arms.Given as goal

-- the arms so far are there, each at a label
abbrev pub invariant-loop-number : goal.invariant-loop-number
invariant-loop-number l = record {
  inner : All (IsInner l.asm.labels) l.labels.items;
  count : length l.labels.items ≡ l.number;
  labels : l.asm.labels ≡ l.fn.asm.labels ++ placed l.number;
  made : length l.asm.labels ≡ length l.fn.asm.labels + l.number;
  few : all_longest l.asm.parts ≤ all_longest l.fn.asm.parts + 60 * l.number;
}
