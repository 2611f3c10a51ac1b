use Rattle.std.proofs.Common.{◌<◌, take}
use Rattle.std.specs.Prelude.{All}
use Rattle.std.specs.Option.{ForSome}
use Rattle.cmm_graph.specs.declared.node.Node.{Node}
use Rattle.cmm_live.specs.Sites.{site_of}
use Rattle.cmm_live.proofs.sites.site_count.Given as goal

abbrev pub invariant-loop-node : goal.invariant-loop-node
invariant-loop-node l = All (λ (node : Node). ForSome (site_of node.kind) (λ s. s.number < l.count)) (take l.node-index l.nodes)
