-- What a layer that gives locals places requires of a liveness: the sets are closed along the paths of the graph.
use Rattle.std.specs.Prelude.{◌≡◌, ◌↔◌, true, IsTrue, Contains, Some}
use Rattle.cmm_graph.specs.declared.number.NodeId.{NodeId}
use Rattle.cmm_graph.specs.declared.number.SiteId.{SiteId}
use Rattle.cmm_graph.specs.declared.operand.Local.{Local}
use Rattle.cmm_graph.specs.declared.node.Node.{Node}
use Rattle.cmm_graph.specs.declared.graph.Graph.{Graph}
use Rattle.cmm_graph.specs.Paths.{node_of, successors, reads, writes}
use Rattle.cmm_graph.specs.Ranges.{is_local}
use Rattle.cmm_live.specs.declared.live_sets.LiveSets.{LiveSets}
use Rattle.cmm_live.specs.Conflicts.{Conflicts, conflicts}
use Rattle.cmm_live.specs.Exact.{AreLiveSets, is_before, is_at, is_on_cut}
use Rattle.cmm_live.specs.Sites.{site_of, cut_nodes}

-- at a node, for a local that the graph has
pub record IsKeptAt (g : Graph) (found : LiveSets) (n : NodeId) (node : Node) (l : Local) : Type 0 where
  -- what the node reads is live before it
  pub read : Contains (reads node.kind) l → is_before g found n l ≡ true
  -- what is live before a successor and is not written is live before it
  pub unwritten : (m : NodeId) → Contains (successors g node.kind) m → is_before g found m l ≡ true → ¬ Contains (writes node.kind) l →
      is_before g found n l ≡ true
  -- what is live before a CopyIn to which a site leads is live at the site
  pub site : (s : SiteId) (m : NodeId) → site_of node.kind ≡ Some s → Contains (successors g node.kind) m → is_before g found m l ≡ true →
      is_at g found s l ≡ true
  -- and on its cut exits where it is one of theirs
  pub cut : (s : SiteId) (m : NodeId) → site_of node.kind ≡ Some s → Contains (cut_nodes g node.kind) m → is_before g found m l ≡ true →
      is_on_cut g found s l ≡ true
  -- what is live on a cut exit of a site is live at the site
  pub cut_is_site : (s : SiteId) → site_of node.kind ≡ Some s → is_on_cut g found s l ≡ true → is_at g found s l ≡ true

abbrev pub SetsAreClosed : Type 0
SetsAreClosed = (g : Graph) (found : LiveSets) (n : NodeId) (node : Node) (l : Local) → AreLiveSets g found → node_of g n ≡ Some node →
    IsTrue (is_local g l) → IsKeptAt g found n node l

-- which locals conflict is decided by the sets
abbrev pub SetsDecideConflicts : Type 0
SetsDecideConflicts = (g : Graph) (found : LiveSets) (a b : Local) → AreLiveSets g found → IsTrue (is_local g a) → IsTrue (is_local g b) →
    (conflicts g found a b ≡ true) ↔ Conflicts g a b
