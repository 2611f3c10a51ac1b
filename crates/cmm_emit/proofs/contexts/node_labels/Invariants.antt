use Rattle.std.proofs.Common.{◌≡◌, map, take}
use Rattle.cmm_emit.specs.Naming.{label_at}
use Rattle.cmm_emit.proofs.contexts.node_labels.Given as goal

-- those of the nodes so far
abbrev pub invariant-loop-node : goal.invariant-loop-node
invariant-loop-node l = l.found ≡ map (λ n. label_at l.nodes n.number) (take l.node-index l.which)
