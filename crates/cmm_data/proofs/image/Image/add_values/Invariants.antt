use Rattle.std.proofs.Common.{◌≡◌, ◌+◌, ◌*◌, ◌^◌, ◌≤◌, ◌++◌, drop, length}
use Rattle.cmm_words.specs.Widths.{bytes}
use Rattle.cmm_data.specs.inside.Walking.{unfilled, value_bytes, value_fixes}
use Rattle.cmm_data.proofs.image.Image.add_values.Given as goal

-- what is left is added behind the bytes so far
abbrev pub invariant-loop-value : goal.invariant-loop-value
invariant-loop-value l = record {
  so_far : l.self.bytes.items ++ value_bytes (unfilled l.addresses) l.width (drop l.value-index l.values)
      ≡ l.initial.self.bytes.items ++ value_bytes (unfilled l.addresses) l.width l.values;
  waiting : l.self.fixes.items ++ value_fixes (length l.self.bytes.items) l.width (drop l.value-index l.values)
      ≡ l.initial.self.fixes.items ++ value_fixes (length l.initial.self.bytes.items) l.width l.values;
  room : length l.self.bytes.items + length (drop l.value-index l.values) * bytes l.width ≤ 2 ^ 32;
}
