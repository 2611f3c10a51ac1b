use Rattle.std.proofs.Common.{◌≡◌, take}
use Rattle.cmm_emit.specs.Naming.{argument_operands}
use Rattle.cmm_emit.proofs.operand.argument_operands.Given as goal

-- the operands of the arguments so far
abbrev pub invariant-loop-argument : goal.invariant-loop-argument
invariant-loop-argument l = l.operands ≡ argument_operands l.context l.targets (take l.argument-index l.arguments)
