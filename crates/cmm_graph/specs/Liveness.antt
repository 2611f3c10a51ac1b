-- Which locals are live at a node of a graph, by paths of any length (Ramsey and Peyton Jones, PLDI 2000, the flow graph).
use Rattle.std.specs.Prelude.{◌≡◌, Contains, Some}
use Rattle.cmm_graph.specs.declared.number.NodeId.{NodeId}
use Rattle.cmm_graph.specs.declared.operand.Local.{Local}
use Rattle.cmm_graph.specs.declared.node.Node.{Node}
use Rattle.cmm_graph.specs.declared.graph.Graph.{Graph}
use Rattle.cmm_graph.specs.Paths.{node_of, successors, reads, writes}

-- A local is live before a node: some path from there reaches a node that reads it, and no node before that one on the path
-- writes it.
pub data IsLiveBefore (g : Graph) (l : Local) : NodeId → Type 0 where
  -- the node itself reads it
  Here : (n : NodeId) (node : Node) → node_of g n ≡ Some node → Contains (reads node.kind) l → IsLiveBefore g l n
  -- the node does not write it, and leads to one from which there is such a path
  Onward : (n m : NodeId) (node : Node) → node_of g n ≡ Some node → ¬ Contains (writes node.kind) l →
      Contains (successors g node.kind) m → IsLiveBefore g l m → IsLiveBefore g l n

-- a local is live after a node: it is live before one to which the node leads
pub record IsLiveAfter (g : Graph) (l : Local) (node : Node) : Type 0 where
  pub next : NodeId
  pub leads : Contains (successors g node.kind) next
  pub live : IsLiveBefore g l next
