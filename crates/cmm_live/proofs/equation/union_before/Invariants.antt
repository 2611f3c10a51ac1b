use Rattle.std.proofs.Common.{take}
use Rattle.cmm_live.specs.inside.Unions.{IsUnionOf}
use Rattle.cmm_live.proofs.equation.union_before.Given as goal

abbrev pub invariant-loop-node : goal.invariant-loop-node
invariant-loop-node l = IsUnionOf l.g l.before (take l.node-index l.nodes) l.set
