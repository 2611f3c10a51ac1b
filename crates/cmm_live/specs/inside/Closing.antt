-- What holds while the sets before nodes grow to the least that solve the equations of all nodes.
use Rattle.std.specs.Prelude.{◌≡◌, ◌<◌, ◌-◌, ℕ, Bool, true, false, IsTrue, Contains, List, length, slice_set, sum_by, Some}
use Rattle.std.specs.Bool.{OnTrue, OnFalse}
use Rattle.cmm_bitset.specs.Sets.{has, union, member_count}
use Rattle.cmm_graph.specs.declared.number.NodeId.{NodeId}
use Rattle.cmm_graph.specs.declared.operand.Local.{Local}
use Rattle.cmm_graph.specs.declared.node.Node.{Node}
use Rattle.cmm_graph.specs.declared.graph.Graph.{Graph}
use Rattle.cmm_graph.specs.Paths.{node_of, successors, reads, writes}
use Rattle.cmm_graph.specs.Ranges.{is_local}
use Rattle.cmm_graph.specs.Liveness.{IsLiveBefore}
use Rattle.cmm_live.specs.Exact.{set_at, has_local}
use Rattle.cmm_live.specs.inside.Unions.{IsSetBefore, AreSized}

-- the set before a node has all that the node's equation asks for
pub record IsClosedAt (g : Graph) (sets : List (List Bool)) (n : NodeId) : Type 0 where
  pub read : (node : Node) (l : Local) → node_of g n ≡ Some node → IsTrue (is_local g l) → Contains (reads node.kind) l →
      has_local g (set_at sets n.number) l ≡ true
  pub unwritten : (node : Node) (l : Local) (m : NodeId) → node_of g n ≡ Some node → IsTrue (is_local g l) →
      ¬ Contains (writes node.kind) l → Contains (successors g node.kind) m → has_local g (set_at sets m.number) l ≡ true →
      has_local g (set_at sets n.number) l ≡ true

-- sets that have only what is live, and lack only what the equations of waiting nodes ask for
pub record AreGrowing (g : Graph) (sets : List (List Bool)) (waits : List Bool) : Type 0 where
  pub count : length sets ≡ length g.nodes
  pub sized : AreSized g sets
  pub sound : (n : NodeId) (l : Local) → IsTrue (is_local g l) → has_local g (set_at sets n.number) l ≡ true → IsLiveBefore g l n
  pub closed : (n : NodeId) → n.number < length g.nodes → has waits n.number ≡ false → IsClosedAt g sets n

-- what a visit of a node does: its set takes in the right side of its equation
pub record Visited (g : Graph) (old new : List (List Bool)) (n : ℕ) (node : Node) (grew : Bool) : Type 0 where
  pub set : List Bool
  pub is_right_side : IsSetBefore g old node.kind set
  pub becomes : new ≡ slice_set old n (union (set_at old n) set)
  pub grows : OnTrue grew (member_count (set_at old n) < member_count (union (set_at old n) set))
  pub stays : OnFalse grew (union (set_at old n) set ≡ set_at old n)

-- how many more members the sets could have
abbrev pub missing : List (List Bool) → ℕ
missing sets = sum_by (λ set. length set - member_count set) sets

-- how many edges there are, by the lists of predecessors
abbrev pub edge_count : List (List ℕ) → ℕ
edge_count lists = sum_by length lists
