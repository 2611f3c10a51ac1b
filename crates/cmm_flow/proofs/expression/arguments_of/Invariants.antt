use Rattle.std.proofs.Common.{◌≡◌, ◌++◌, drop}
use Rattle.cmm_flow.specs.Operands.{arguments_of}
use Rattle.cmm_flow.proofs.expression.arguments_of.Given as goal

abbrev pub invariant-loop-e : goal.invariant-loop-e
invariant-loop-e l = l.arguments ++ arguments_of l.base (drop l.e-index l.es) ≡ arguments_of l.base-2 l.es
