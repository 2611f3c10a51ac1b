-- Which locals are live at a call site, and which on its cut exits (C-- Language Specification 2.0, calls and their annotations; Ramsey
-- and Peyton Jones, PLDI 2000, flow edges).
use Rattle.std.specs.Prelude.{◌≡◌, Contains, List, [], Option, Some, None}
use Rattle.cmm_graph.specs.declared.number.NodeId.{NodeId}
use Rattle.cmm_graph.specs.declared.number.SiteId.{SiteId}
use Rattle.cmm_graph.specs.declared.operand.Local.{Local}
use Rattle.cmm_graph.specs.declared.node.Node.{Node}
use Rattle.cmm_graph.specs.declared.node.NodeKind.{NodeKind}
use Rattle.cmm_graph.specs.declared.node.NodeKind.TheVariants.{Call, Yield}
use Rattle.cmm_graph.specs.declared.graph.Graph.{Graph}
use Rattle.cmm_graph.specs.Paths.{node_of, landings, successors}
use Rattle.cmm_graph.specs.Liveness.{IsLiveBefore}

-- the site at which a node waits
abbrev pub site_of : NodeKind → Option SiteId
site_of (Call site callee arguments exits) = Some site
site_of (Yield site values exits) = Some site
site_of _ = None

-- the CopyIns to which its cut exits lead
abbrev pub cut_nodes : Graph → NodeKind → List NodeId
cut_nodes g (Call site callee arguments exits) = landings g exits.cuts
cut_nodes g (Yield site values exits) = landings g exits.cuts
cut_nodes g _ = []

-- a local is live before one of the nodes to which certain exits of a site lead
pub record IsLiveOn (g : Graph) (exits : Graph → NodeKind → List NodeId) (l : Local) (s : SiteId) : Type 0 where
  pub at : NodeId
  pub node : Node
  pub is_there : node_of g at ≡ Some node
  pub waits : site_of node.kind ≡ Some s
  pub next : NodeId
  pub leads : Contains (exits g node.kind) next
  pub live : IsLiveBefore g l next

-- live at a site: live after a node that waits there, by any exit. What an exit brings is written by the CopyIn to which it leads
abbrev pub IsLiveAt : Graph → Local → SiteId → Type 0
IsLiveAt g l s = IsLiveOn g successors l s

-- live on a cut exit of a site: live before its CopyIn, and so where its continuation begins without the parameters
abbrev pub IsLiveOnCut : Graph → Local → SiteId → Type 0
IsLiveOnCut g l s = IsLiveOn g cut_nodes l s
