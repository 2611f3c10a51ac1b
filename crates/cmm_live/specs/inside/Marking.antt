-- What a set is after some locals were made members, or were taken away.
use Rattle.std.specs.Prelude.{◌≡◌, ◌⊎◌, Bool, IsTrue, Contains, List, length}
use Rattle.cmm_graph.specs.declared.operand.Local.{Local}
use Rattle.cmm_graph.specs.declared.graph.Graph.{Graph}
use Rattle.cmm_graph.specs.Ranges.{is_local}
use Rattle.cmm_live.specs.Exact.{has_local}

-- some locals are members of the new set, or none of them is, and of the others those of the old set are
pub record Marked (g : Graph) (old new : List Bool) (locals : List Local) (value : Bool) : Type 0 where
  pub size : length new ≡ length old
  pub each : (l : Local) → IsTrue (is_local g l) →
      Contains locals l × (has_local g new l ≡ value) ⊎ (¬ Contains locals l) × (has_local g new l ≡ has_local g old l)
