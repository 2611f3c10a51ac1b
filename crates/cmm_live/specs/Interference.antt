-- Undirected graphs whose nodes are the locals of a graph, by their numbers, and in which those are joined that conflict.
use Rattle.std.specs.Prelude.{◌≡◌, ◌↔◌, ℕ, Bool, true, IsTrue, List, length}
use Rattle.cmm_colour.specs.Graphs.{adjacent}
use Rattle.cmm_graph.specs.declared.operand.Local.{Local}
use Rattle.cmm_graph.specs.declared.graph.Graph.{Graph}
use Rattle.cmm_graph.specs.Ranges.{is_local}
use Rattle.cmm_live.specs.Conflicts.{Conflicts}
use Rattle.cmm_live.specs.Exact.{has_local}
use Rattle.cmm_live.specs.Locals.{local_number, local_count}

-- just the pairs of locals that conflict
pub record AreConflicts (g : Graph) (graph : List (List ℕ)) : Type 0 where
  pub size : length graph ≡ local_count g
  pub exact : (a b : Local) → IsTrue (is_local g a) → IsTrue (is_local g b) →
      (adjacent graph (local_number g a) (local_number g b) ≡ true) ↔ Conflicts g a b

-- just those of them whose locals are both in a set
pub record AreConflictsWithin (g : Graph) (class : List Bool) (graph : List (List ℕ)) : Type 0 where
  pub size : length graph ≡ local_count g
  pub exact : (a b : Local) → IsTrue (is_local g a) → IsTrue (is_local g b) →
      (adjacent graph (local_number g a) (local_number g b) ≡ true)
      ↔ ((has_local g class a ≡ true) × (has_local g class b ≡ true) × Conflicts g a b)
