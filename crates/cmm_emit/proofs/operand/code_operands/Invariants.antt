use Rattle.std.proofs.Common.{◌≡◌, take}
use Rattle.cmm_emit.specs.Naming.{code_operands}
use Rattle.cmm_emit.proofs.operand.code_operands.Given as goal

-- the operands of the values so far
abbrev pub invariant-loop-value : goal.invariant-loop-value
invariant-loop-value l = l.operands ≡ code_operands l.context l.targets (take l.value-index l.values)
