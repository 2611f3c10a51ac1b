use Rattle.std.proofs.Common.{take}
use Rattle.std.specs.List.{list_any}
use Rattle.cmm_emit.specs.Mentions.{AddsNamed, node_names}
use Rattle.cmm_emit.proofs.mentions.Mentions.add_graph.Given as goal

-- what the nodes so far name is added
abbrev pub invariant-loop-node : goal.invariant-loop-node
invariant-loop-node l = AddsNamed (λ r. list_any (λ x. node_names r x) (take l.node-index l.node-items)) l.initial.self l.self
