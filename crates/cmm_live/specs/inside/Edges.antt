-- The nodes that lead to a node.
use Rattle.std.specs.Prelude.{◌≡◌, ◌<◌, ℕ, All, Contains, List, [], length, slice_index_or, Some}
use Rattle.cmm_graph.specs.declared.number.NodeId.{NodeId}
use Rattle.cmm_graph.specs.declared.node.Node.{Node}
use Rattle.cmm_graph.specs.declared.graph.Graph.{Graph}
use Rattle.cmm_graph.specs.Paths.{node_of, successors}

abbrev pub list_at : List (List ℕ) → ℕ → List ℕ
list_at lists number = slice_index_or lists number []

-- a list for each node, of nodes
pub record AreNodeLists (count : ℕ) (lists : List (List ℕ)) : Type 0 where
  pub size : length lists ≡ count
  pub within : (n : ℕ) → All (λ p. p < count) (list_at lists n)

-- each node is in the list of each node to which it leads
pub record ArePredecessors (g : Graph) (lists : List (List ℕ)) : Type 0 where
  pub nodes : AreNodeLists (length g.nodes) lists
  pub complete : (p n : NodeId) (node : Node) → node_of g p ≡ Some node → Contains (successors g node.kind) n → n.number < length g.nodes →
      Contains (list_at lists n.number) p.number

-- a node was added to the lists of some nodes, where they are there, and nothing was taken away
pub record AddsTo (old new : List (List ℕ)) (nodes : List NodeId) (from : ℕ) : Type 0 where
  pub lists : AreNodeLists (length old) new
  pub kept : (n p : ℕ) → Contains (list_at old n) p → Contains (list_at new n) p
  pub added : (n : NodeId) → Contains nodes n → n.number < length old → Contains (list_at new n.number) from
