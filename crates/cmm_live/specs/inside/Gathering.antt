-- What the sets of call sites have, after some of the nodes were looked at.
use Rattle.std.specs.Prelude.{◌≡◌, ◌↔◌, ◌<◌, ℕ, Bool, true, List, length, Some}
use Rattle.cmm_bitset.specs.Sets.{has}
use Rattle.cmm_graph.specs.declared.number.NodeId.{NodeId}
use Rattle.cmm_graph.specs.declared.node.Node.{Node}
use Rattle.cmm_graph.specs.declared.node.NodeKind.{NodeKind}
use Rattle.cmm_graph.specs.declared.graph.Graph.{Graph}
use Rattle.cmm_graph.specs.Paths.{node_of, successors}
use Rattle.cmm_live.specs.declared.sites.Ways.{Ways}
use Rattle.cmm_live.specs.declared.sites.Ways.TheVariants as ways
use Rattle.cmm_live.specs.Exact.{set_at}
use Rattle.cmm_live.specs.Sites.{site_of, cut_nodes}
use Rattle.cmm_live.specs.inside.Unions.{IsInOne, AreSized}

abbrev pub nodes_by : Ways → Graph → NodeKind → List NodeId
nodes_by ways.All g kind = successors g kind
nodes_by ways.Cuts g kind = cut_nodes g kind

-- one of the first nodes waits at a site, and what its exits lead to has a number
pub record IsOfOne (g : Graph) (before : List (List Bool)) (by : Ways) (i s number : ℕ) : Type 0 where
  pub at : ℕ
  pub within : at < i
  pub node : Node
  pub is_there : node_of g (record { number = at }) ≡ Some node
  pub waits : site_of node.kind ≡ Some (record { number = s })
  pub member : IsInOne before (nodes_by by g node.kind) number

pub record AreGathered (g : Graph) (before : List (List Bool)) (by : Ways) (i : ℕ) (sets : List (List Bool)) : Type 0 where
  pub sized : AreSized g sets
  pub exact : (s number : ℕ) → s < length sets → (has (set_at sets s) number ≡ true) ↔ IsOfOne g before by i s number
