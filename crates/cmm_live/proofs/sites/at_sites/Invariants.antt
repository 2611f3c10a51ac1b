use Rattle.std.proofs.Common.{◌<◌, length}
use Rattle.std.specs.Prelude.{All}
use Rattle.std.specs.Option.{ForSome}
use Rattle.cmm_graph.specs.declared.node.Node.{Node}
use Rattle.cmm_live.specs.Sites.{site_of}
use Rattle.cmm_live.specs.inside.Gathering.{AreGathered}
use Rattle.cmm_live.proofs.sites.at_sites.Given as goal

abbrev pub invariant-loop-node : goal.invariant-loop-node
invariant-loop-node l = record {
  listed : All (λ (node : Node). ForSome (site_of node.kind) (λ s. s.number < length l.sets.items)) l.g.nodes;
  gathered : AreGathered l.g l.before l.ways l.node-index l.sets.items;
}
