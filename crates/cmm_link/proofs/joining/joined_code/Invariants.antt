use Rattle.std.proofs.Common.{◌≡◌, length}
use Rattle.rv_table.specs.Memory.{code_base}
use Rattle.cmm_unit_code.specs.Joined.{joined_code, reference_value}
use Rattle.cmm_link.proofs.Joined.{size}
use Rattle.cmm_link.proofs.joining.joined_code.Given as goal

-- the units so far are joined
abbrev pub invariant-loop-unit : goal.invariant-loop-unit
invariant-loop-unit l = record {
  code : l.joined.items ≡ joined_code (reference_value l.addresses l.procedures) code_base l.yielded;
  size : length l.joined.items ≡ size l.yielded;
}
