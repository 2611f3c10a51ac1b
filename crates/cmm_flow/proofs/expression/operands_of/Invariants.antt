use Rattle.std.proofs.Common.{◌≡◌, ◌++◌, drop}
use Rattle.cmm_flow.specs.Operands.{operands_of}
use Rattle.cmm_flow.proofs.expression.operands_of.Given as goal

abbrev pub invariant-loop-e : goal.invariant-loop-e
invariant-loop-e l = l.operands ++ operands_of l.base (drop l.e-index l.es) ≡ operands_of l.base-2 l.es
