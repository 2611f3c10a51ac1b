use Rattle.std.proofs.Common.{take}
use Rattle.std.specs.List.{list_any}
use Rattle.cmm_emit.specs.Mentions.{AddsNamed, graph_names}
use Rattle.cmm_emit.proofs.mentions.mentions_of.Given as goal

-- what the graphs so far name is added
abbrev pub invariant-loop-graph : goal.invariant-loop-graph
invariant-loop-graph l = AddsNamed (λ r. list_any (λ x. graph_names r x) (take l.graph-index l.graphs)) l.initial.found l.found
