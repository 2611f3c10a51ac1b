-- Unions of the sets of some nodes, and the set before a node by those of its successors.
use Rattle.std.specs.Prelude.{◌≡◌, ◌↔◌, ◌⊎◌, ◌<◌, ℕ, Bool, true, IsTrue, Contains, List, length}
use Rattle.cmm_bitset.specs.Sets.{has}
use Rattle.cmm_graph.specs.declared.number.NodeId.{NodeId}
use Rattle.cmm_graph.specs.declared.operand.Local.{Local}
use Rattle.cmm_graph.specs.declared.node.NodeKind.{NodeKind}
use Rattle.cmm_graph.specs.declared.graph.Graph.{Graph}
use Rattle.cmm_graph.specs.Paths.{successors, reads, writes}
use Rattle.cmm_graph.specs.Ranges.{is_local}
use Rattle.cmm_live.specs.Locals.{local_number, local_count}
use Rattle.cmm_live.specs.Exact.{set_at, has_local}

-- the set of one of these nodes has a number
pub record IsInOne (sets : List (List Bool)) (nodes : List NodeId) (number : ℕ) : Type 0 where
  pub node : NodeId
  pub listed : Contains nodes node
  pub member : has (set_at sets node.number) number ≡ true

-- a set of the graph's locals has what is in the set of one of these nodes
pub record IsUnionOf (g : Graph) (sets : List (List Bool)) (nodes : List NodeId) (set : List Bool) : Type 0 where
  pub size : length set ≡ local_count g
  pub exact : (number : ℕ) → (has set number ≡ true) ↔ IsInOne sets nodes number

-- the right side of the equation of a node: what it reads, and what is in the set of a successor and not written
pub record IsSetBefore (g : Graph) (sets : List (List Bool)) (kind : NodeKind) (set : List Bool) : Type 0 where
  pub size : length set ≡ local_count g
  pub exact : (l : Local) → IsTrue (is_local g l) → (has_local g set l ≡ true)
      ↔ (Contains (reads kind) l ⊎ (¬ Contains (writes kind) l) × IsInOne sets (successors g kind) (local_number g l))

-- each set has the size of the graph's locals
abbrev pub AreSized : Graph → List (List Bool) → Type 0
AreSized g sets = (k : ℕ) → k < length sets → length (set_at sets k) ≡ local_count g
