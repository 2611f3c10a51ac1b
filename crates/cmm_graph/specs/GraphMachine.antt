-- The graph machine: its states, one after the other, and what a step costs.
use Rattle.std.specs.Prelude.{ℕ, List, [], ◌∷◌, Some, None}
use Rattle.cmm_program.specs.State.{Setting}
use Rattle.cmm_program.specs.Control.{State}
use Rattle.cmm_program.specs.Machine.{step_of, steps_of, start_of}
use Rattle.cmm_graph.specs.declared.graph.Graph.{Graph}
use Rattle.cmm_graph.specs.Paths.{node_of}
use Rattle.cmm_graph.specs.GraphControl.{Position, graph_control, in_graph}

abbrev pub graph_step : List Graph → Setting → State Position → State Position
graph_step graphs s = step_of (graph_control graphs) s

abbrev pub graph_start : List Graph → Setting → List ℕ → State Position
graph_start graphs s input = start_of (graph_control graphs) s input

-- the state after m steps
abbrev pub graph_state_after : List Graph → Setting → List ℕ → ℕ → State Position
graph_state_after graphs s input m = steps_of (graph_control graphs) s m (graph_start graphs s input)

-- ---- costs

-- the tokens of the node at which an activation stands
abbrev pub tokens_at : List Graph → Position → ℕ
tokens_at graphs c = elim (in_graph graphs c.procedure (λ g. node_of g c.node)) [ Some node ↦ node.tokens | None ↦ 0 ]

-- and of the node at which the youngest one stands
abbrev pub tokens_of_youngest : List Graph → State Position → ℕ
tokens_of_youngest graphs st = elim st.controls [ [] ↦ 0 | c ∷ _ ↦ tokens_at graphs c ]
