-- Located runs follow runs over graphs.
use Rattle.std.specs.Prelude.{◌≡◌, ℕ, ◌+◌, true, false, List, Some}
use Rattle.cmm_program.specs.declared.procedure.Proc.{Proc}
use Rattle.cmm_program.specs.Control.{State}
use Rattle.cmm_program.specs.Frames.{procedure_at}
use Rattle.cmm_program.specs.State.{Setting, Running}
use Rattle.cmm_simulation.specs.Following.{Follows}
use Rattle.cmm_simulation.specs.Simulation.{Simulates}
use Rattle.cmm_machine_laws.specs.Observed.{machine_of}
use Rattle.cmm_graph.specs.GraphControl.{Position, graph_control}
use Rattle.cmm_graph.specs.GraphMachine.{graph_start, tokens_of_youngest}
use Rattle.cmm_located.specs.Clients.{IsShowable}
use Rattle.cmm_located.specs.Compiled.{Compiled}
use Rattle.cmm_located.specs.LocatedMachine.{located_machine, located_start, located_step, tokens_at}
use Rattle.cmm_located.specs.Relation.{Liveness, Related}
use Rattle.cmm_located.specs.RunningSteps.{IsCompiled}
use Rattle.cmm_located.specs.Steps.{kind_of_youngest, leads_on}

-- What a step over a graph costs over locations, where no node has more than n tokens: its node alone where that leads on, and a node
-- where control lands beside it where control leaves the activation; where the client answers, or the run is over, two nodes at most.
abbrev pub step_cost : Compiled → ℕ → State Position → ℕ
step_cost c most st = elim st.store.status [
  | Running ↦ elim (leads_on (kind_of_youngest c st)) [
    | true ↦ tokens_of_youngest c.graphs st
    | false ↦ tokens_of_youngest c.graphs st + most
  ]
  | _ ↦ most + most
]

-- That one state stands for another is a simulation.
abbrev pub LocatedRunsSimulateGraphs : Type 0
LocatedRunsSimulateGraphs = (s : Setting) (c : Compiled) (live : Liveness) (most : ℕ) → IsCompiled s c live most → IsShowable s c →
    Simulates (machine_of (graph_control c.graphs) s) (step_cost c most) (located_machine s c) (tokens_at s c) (Related s c live)

-- A located run follows the run over graphs, from behind its first step on, which enters `main`.
abbrev pub LocatedRunsFollowGraphs : Type 0
LocatedRunsFollowGraphs = (s : Setting) (c : Compiled) (live : Liveness) (most : ℕ) (p : Proc) (input : List ℕ) → IsCompiled s c live most → IsShowable s c →
    procedure_at s s.program.main ≡ Some p → p.formals ≡ 0 →
    Follows (machine_of (graph_control c.graphs) s) (step_cost c most) (located_machine s c) (tokens_at s c) (graph_start c.graphs s input)
    (located_step s c (located_start s c input))
