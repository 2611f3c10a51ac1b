-- Dependencies of the declarations of a unit: the graph, and which of them are on cycles.
use Rattle.std.specs.Prelude.{◌≡◌, ℕ, ◌<◌, false, List, length, get_or}
use Rattle.cmm_static_semantics.specs.Declarations.{Declared, Entry}
use Rattle.cmm_digraph.specs.Reaching.{comes_back}
use Rattle.cmm_unit_scope.specs.Depending.{graph_of}
use Rattle.cmm_unit_scope.specs.declared.dependencies.Dependencies.{Dependencies}

pub record AreDependencies (ds : List (Declared Entry)) (dependencies : Dependencies) : Type 0 where
  pub graph : dependencies.graph ≡ graph_of ds
  pub size : length dependencies.cyclic.items ≡ length ds
  pub cyclic : (node : ℕ) → node < length ds → get_or dependencies.cyclic.items node false ≡ comes_back (graph_of ds) node
