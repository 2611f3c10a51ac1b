-- What is asked of the places of a graph's locals, for what is live where.
use Rattle.std.specs.Prelude.{◌≡◌, ◌≢◌, ◌+◌, ℕ, Bool, true, false, Contains, List, length, slice_index_or, Some}
use Rattle.cmm_bitset.specs.Sets.{has}
use Rattle.cmm_graph.specs.declared.graph.Graph.{Graph}
use Rattle.cmm_graph.specs.declared.node.Node.{Node}
use Rattle.cmm_graph.specs.declared.node.NodeKind.{NodeKind}
use Rattle.cmm_graph.specs.declared.node.NodeKind.TheVariants.{Cut}
use Rattle.cmm_graph.specs.declared.number.NodeId.{NodeId}
use Rattle.cmm_graph.specs.declared.operand.Local.{Local}
use Rattle.cmm_graph.specs.Paths.{node_of, successors, writes}
use Rattle.cmm_graph.specs.Ranges.{is_local}
use Rattle.cmm_live.specs.declared.live_sets.LiveSets.{LiveSets}
use Rattle.cmm_live.specs.Exact.{set_at}
use Rattle.cmm_live.specs.Locals.{local_count, local_number}
use Rattle.cmm_live.specs.Sites.{cut_nodes}
use Rattle.cmm_chain.specs.declared.frame.Location.{Location}
use Rattle.cmm_chain.specs.declared.frame.Location.TheVariants.{Slot}
use Rattle.cmm_chain.specs.Running.{lasts}
use Rattle.cmm_allocate.specs.Compiling.{no_place}

abbrev pub place_at : List Location → ℕ → Location
place_at locals v = slice_index_or locals v no_place

-- a cut statement, which may lead to a continuation of its own activation
abbrev pub cuts_inside : NodeKind → Bool
cuts_inside (Cut to arguments own) = true
cuts_inside _ = false

pub record ArePlaces (g : Graph) (live : LiveSets) (locals : List Location) : Type 0 where
  pub count : length locals ≡ local_count g
  -- what a node writes shares its place with nothing else that is live where the node leads
  pub written : (n : NodeId) (node : Node) (m : NodeId) (l : Local) (u : ℕ) → node_of g n ≡ Some node → Contains (successors g node.kind) m → Contains (writes node.kind) l →
      is_local g l ≡ true → has (set_at live.before m.number) u ≡ true → u ≢ local_number g l → place_at locals (local_number g l) ≢ place_at locals u
  -- nor do two that are live at one site, whose places last
  pub at_site : (site v u : ℕ) → has (set_at live.sites site) v ≡ true → has (set_at live.sites site) u ≡ true → u ≢ v → place_at locals v ≢ place_at locals u
  pub lasting : (site v : ℕ) → has (set_at live.sites site) v ≡ true → lasts (place_at locals v) ≡ true
  -- what is live where a cut exit leads stands in a slot
  pub cut : (n : NodeId) (node : Node) (m : NodeId) (u : ℕ) → node_of g n ≡ Some node → Contains (cut_nodes g node.kind) m → has (set_at live.before m.number) u ≡ true →
      (offset : ℕ) × (place_at locals u ≡ Slot offset)
  -- and where a cut inside of its activation leads, in a place that lasts
  pub inside : (n : NodeId) (node : Node) (m : NodeId) (u : ℕ) → node_of g n ≡ Some node → cuts_inside node.kind ≡ true → Contains (successors g node.kind) m →
      has (set_at live.before m.number) u ≡ true → lasts (place_at locals u) ≡ true
