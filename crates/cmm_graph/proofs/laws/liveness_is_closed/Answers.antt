use Rattle.std.proofs.Common.{◌≡◌, ◌⊎◌, Contains, Some, arith}
use Rattle.cmm_graph.specs.declared.number.NodeId.{NodeId}
use Rattle.cmm_graph.specs.declared.operand.Local.{Local}
use Rattle.cmm_graph.specs.declared.node.Node.{Node}
use Rattle.cmm_graph.specs.declared.graph.Graph.{Graph}
use Rattle.cmm_graph.specs.Paths.{node_of, reads, writes}
use Rattle.cmm_graph.specs.Liveness.{IsLiveBefore, IsLiveAfter, Here, Onward}
use Rattle.cmm_graph.proofs.laws.liveness_is_closed.Goals as goal

module _ (g : Graph) (l : Local) where
  abbrev Shown : Node → Type 0
  Shown node = Contains (reads node.kind) l ⊎ IsLiveAfter g l node × (¬ Contains (writes node.kind) l)

  -- by what a path begins with
  shown : (n : NodeId) (node : Node) → node_of g n ≡ Some node → IsLiveBefore g l n → Shown node
  shown _ node is (Here n other is_other read) = grind (arith, is, is_other, read)
  shown _ node is (Onward n m other is_other unwritten leads live) = grind (arith, is, is_other, unwritten, leads, live)

pub returns-clause-read : goal.returns-clause-read
returns-clause-read c = λ g n node l is read. Here n node is read

pub returns-clause-unwritten : goal.returns-clause-unwritten
returns-clause-unwritten c = λ g n node l is after unwritten. Onward n after.next node is unwritten after.leads after.live

pub returns-clause-nothing_else : goal.returns-clause-nothing_else
returns-clause-nothing_else c = λ g n node l is live. shown g l n node is live
