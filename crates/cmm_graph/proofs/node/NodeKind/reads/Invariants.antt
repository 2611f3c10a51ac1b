use Rattle.std.proofs.Common.{◌≡◌, take}
use Rattle.std.specs.List.{flat_map}
use Rattle.cmm_graph.specs.Paths.{read_by}
use Rattle.cmm_graph.proofs.node.NodeKind.reads.Given as goal

-- the locals among the operands so far
abbrev pub invariant-loop-operand : goal.invariant-loop-operand
invariant-loop-operand l = l.locals ≡ flat_map read_by (take l.operand-index l.operand-items)
