-- Which locals may not share a place (textbook colouring, after Chaitin and others, Register allocation via coloring, 1981). The 0 that
-- a variable has at the Entry is no write.
use Rattle.std.specs.Prelude.{◌≡◌, ◌≢◌, ◌⊎◌, ◌&&◌, ◌||◌, ◌==◌, not, Bool, false, Contains, Some}
use Rattle.std.specs.List.{list_any}
use Rattle.cmm_graph.specs.declared.number.NodeId.{NodeId}
use Rattle.cmm_graph.specs.declared.number.SiteId.{SiteId}
use Rattle.cmm_graph.specs.declared.operand.Local.{Local}
use Rattle.cmm_graph.specs.declared.operand.Local.TheVariants as local
use Rattle.cmm_graph.specs.declared.node.Node.{Node}
use Rattle.cmm_graph.specs.declared.graph.Graph.{Graph}
use Rattle.cmm_graph.specs.Paths.{node_of, successors, writes}
use Rattle.cmm_graph.specs.Liveness.{IsLiveAfter}
use Rattle.cmm_live.specs.declared.live_sets.LiveSets.{LiveSets}
use Rattle.cmm_live.specs.Exact.{has_local, is_before}
use Rattle.cmm_live.specs.Sites.{IsLiveAt}

-- both are live at one site
pub record AreLiveAtSite (g : Graph) (a b : Local) : Type 0 where
  pub site : SiteId
  pub first : IsLiveAt g a site
  pub second : IsLiveAt g b site

-- both are live after a node that writes one of them
pub record AreLiveAfterWrite (g : Graph) (a b : Local) : Type 0 where
  pub at : NodeId
  pub node : Node
  pub is_there : node_of g at ≡ Some node
  pub written : Contains (writes node.kind) a ⊎ Contains (writes node.kind) b
  pub first : IsLiveAfter g a node
  pub second : IsLiveAfter g b node

-- the first is live after a node that writes the second
pub record IsLiveAfterWrite (g : Graph) (a b : Local) : Type 0 where
  pub at : NodeId
  pub node : Node
  pub is_there : node_of g at ≡ Some node
  pub written : Contains (writes node.kind) b
  pub live : IsLiveAfter g a node

pub record Conflicts (g : Graph) (a b : Local) : Type 0 where
  pub different : a ≢ b
  pub cause : AreLiveAtSite g a b ⊎ (AreLiveAfterWrite g a b ⊎ (IsLiveAfterWrite g a b ⊎ IsLiveAfterWrite g b a))

-- ---- the same by sets

abbrev pub is_same : Local → Local → Bool
is_same (local.Variable v) (local.Variable w) = v.number == w.number
is_same (local.Variable v) (local.Temporary t) = false
is_same (local.Temporary t) (local.Variable v) = false
is_same (local.Temporary t) (local.Temporary u) = t.number == u.number

abbrev pub is_written : Node → Local → Bool
is_written node l = list_any (λ w. is_same w l) (writes node.kind)

abbrev pub is_after : Graph → LiveSets → Node → Local → Bool
is_after g found node l = list_any (λ m. is_before g found m l) (successors g node.kind)

abbrev pub are_at_site : Graph → LiveSets → Local → Local → Bool
are_at_site g found a b = list_any (λ set. has_local g set a && has_local g set b) found.sites

abbrev pub are_after_write : Graph → LiveSets → Local → Local → Bool
are_after_write g found a b =
    list_any (λ node. (is_written node a || is_written node b) && (is_after g found node a && is_after g found node b)) g.nodes

abbrev pub is_after_write : Graph → LiveSets → Local → Local → Bool
is_after_write g found a b = list_any (λ node. is_written node b && is_after g found node a) g.nodes

-- whether two locals conflict
abbrev pub conflicts : Graph → LiveSets → Local → Local → Bool
conflicts g found a b = not (is_same a b)
    && (are_at_site g found a b || (are_after_write g found a b || (is_after_write g found a b || is_after_write g found b a)))
