use Rattle.std.proofs.Common.{◌≡◌, take}
use Rattle.cmm_graph.specs.Paths.{arm_nodes}
use Rattle.cmm_graph.proofs.paths.switch_nodes.Given as goal

-- the nodes of the arms so far
abbrev pub invariant-loop-arm : goal.invariant-loop-arm
invariant-loop-arm l = l.nodes ≡ arm_nodes (take l.arm-index l.arms)
