-- Sets that have just the live locals.
use Rattle.std.specs.Prelude.{◌≡◌, ◌↔◌, ◌<◌, ℕ, Bool, true, IsTrue, List, [], length, slice_index_or, Some}
use Rattle.cmm_bitset.specs.Sets.{has}
use Rattle.cmm_graph.specs.declared.number.NodeId.{NodeId}
use Rattle.cmm_graph.specs.declared.number.SiteId.{SiteId}
use Rattle.cmm_graph.specs.declared.operand.Local.{Local}
use Rattle.cmm_graph.specs.declared.node.Node.{Node}
use Rattle.cmm_graph.specs.declared.graph.Graph.{Graph}
use Rattle.cmm_graph.specs.Paths.{node_of}
use Rattle.cmm_graph.specs.Ranges.{is_local}
use Rattle.cmm_graph.specs.Liveness.{IsLiveBefore}
use Rattle.cmm_live.specs.declared.live_sets.LiveSets.{LiveSets}
use Rattle.cmm_live.specs.Locals.{local_number, local_count}
use Rattle.cmm_live.specs.Sites.{site_of, IsLiveAt, IsLiveOnCut}

abbrev pub set_at : List (List Bool) → ℕ → List Bool
set_at sets number = slice_index_or sets number []

-- whether a set has a local
abbrev pub has_local : Graph → List Bool → Local → Bool
has_local g set l = has set (local_number g l)

-- a set of the graph's locals has just those of which something holds
pub record IsSetOf (g : Graph) (P : Local → Type 0) (set : List Bool) : Type 0 where
  pub size : length set ≡ local_count g
  pub exact : (l : Local) → IsTrue (is_local g l) → (has_local g set l ≡ true) ↔ P l

-- a set for each node: what is live before it
pub record AreBefore (g : Graph) (sets : List (List Bool)) : Type 0 where
  pub count : length sets ≡ length g.nodes
  pub each : (n : NodeId) → n.number < length g.nodes → IsSetOf g (λ l. IsLiveBefore g l n) (set_at sets n.number)

-- a set for each call site: what has something to do with the site
pub record AreOfSites (g : Graph) (P : Local → SiteId → Type 0) (sets : List (List Bool)) : Type 0 where
  pub listed : (n : NodeId) (node : Node) (s : SiteId) → node_of g n ≡ Some node → site_of node.kind ≡ Some s → s.number < length sets
  pub each : (s : SiteId) → s.number < length sets → IsSetOf g (λ l. P l s) (set_at sets s.number)

-- what is live before each node, at each call site, and on the cut exits of each
pub record AreLiveSets (g : Graph) (found : LiveSets) : Type 0 where
  pub before : AreBefore g found.before
  pub sites : AreOfSites g (IsLiveAt g) found.sites
  pub cuts : AreOfSites g (IsLiveOnCut g) found.cuts

-- ---- membership

-- whether a local is in the set before a node, at a site, on the cut exits of a site
abbrev pub is_before : Graph → LiveSets → NodeId → Local → Bool
is_before g found n l = has_local g (set_at found.before n.number) l

abbrev pub is_at : Graph → LiveSets → SiteId → Local → Bool
is_at g found s l = has_local g (set_at found.sites s.number) l

abbrev pub is_on_cut : Graph → LiveSets → SiteId → Local → Bool
is_on_cut g found s l = has_local g (set_at found.cuts s.number) l
