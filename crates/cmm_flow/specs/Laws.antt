-- The graphs of a program do what the C-- machine does, and no step of the machine costs more than the longest procedure.
use Rattle.std.specs.Prelude.{◌≡◌, ℕ, ◌+◌, ◌<◌, ◌≤◌, max, Bool, true, false, IsTrue, List, [], ◌∷◌, is_some, length}
use Rattle.std.specs.List.{All, AllZip, list_all}
use Rattle.cmm_program.specs.declared.procedure.Proc.{Proc}
use Rattle.cmm_program.specs.declared.program.Program.{Program}
use Rattle.cmm_program.specs.Control.{State}
use Rattle.cmm_program.specs.InRange.{IsInRange, IsProcInRange}
use Rattle.cmm_program.specs.Machine.{start}
use Rattle.cmm_program.specs.State.{Setting, Running}
use Rattle.cmm_program.specs.Todo.{todo_control}
use Rattle.cmm_simulation.specs.Agreement.{Agrees}
use Rattle.cmm_simulation.specs.Following.{Follows}
use Rattle.cmm_simulation.specs.Simulation.{Simulates}
use Rattle.cmm_machine_laws.specs.Fitting.{IsSetUp}
use Rattle.cmm_program.specs.Memory.{IsByte}
use Rattle.cmm_machine_laws.specs.Observed.{machine_of}
use Rattle.cmm_graph.specs.declared.graph.Graph.{Graph}
use Rattle.cmm_graph.specs.Acting.{led}
use Rattle.cmm_graph.specs.Counterpart.{HasSite, IsGraphOf}
use Rattle.cmm_graph.specs.GraphControl.{Position, graph_control, kind_here}
use Rattle.cmm_graph.specs.GraphMachine.{graph_start, tokens_of_youngest}
use Rattle.cmm_graph.specs.Ranges.{IsValid, is_node}
use Rattle.cmm_flow.specs.Few.{PassFew, YieldThere}
use Rattle.cmm_flow.specs.Flow.{AreCovered, HasTokens, IsBounded, IsFlow, IsFlowOf, IsShort}
use Rattle.cmm_flow.specs.Relation.{IsProgramCounted, SoundlyRelated, longest}
use Rattle.cmm_flow.specs.Waiting.{IsWaitedAt, WaitOnce}

-- a program whose statements are counted, and the flow of each of its procedures, where no node has more tokens than the procedure
pub record AreFlows (s : Setting) (graphs : List Graph) : Type 0 where
  pub counted : IsProgramCounted s.program
  pub flows : AllZip IsFlowOf s.program.procs graphs
  pub tokens : AllZip HasTokens s.program.procs graphs

-- Nodes are wrong where what they compute with are no words of their widths. So the laws ask what makes every value of a run fit: a program in range, a
-- valid placement, a stack whose addresses are words, and an input of bytes.

-- a step of the C-- machine is a path over the graphs
abbrev pub FlowSimulates : Type 0
FlowSimulates = (s : Setting) (graphs : List Graph) → IsSetUp s → AreFlows s graphs →
    Simulates (machine_of (todo_control s.program) s) (λ _. longest s.program) (machine_of (graph_control graphs) s)
    (tokens_of_youngest graphs) (SoundlyRelated s graphs)

-- so on every input a run over the graphs follows one of the machine, each node at the cost of its tokens
abbrev pub FlowFollows : Type 0
FlowFollows = (s : Setting) (graphs : List Graph) (input : List ℕ) → IsSetUp s → All IsByte input → AreFlows s graphs →
    Follows (machine_of (todo_control s.program) s) (λ _. longest s.program) (machine_of (graph_control graphs) s)
    (tokens_of_youngest graphs) (start s input) (graph_start graphs s input)

-- and agrees with it with the longest procedure as the factor
abbrev pub FlowAgrees : Type 0
FlowAgrees = (s : Setting) (graphs : List Graph) (input : List ℕ) → IsSetUp s → All IsByte input → AreFlows s graphs →
    Agrees (machine_of (todo_control s.program) s) (machine_of (graph_control graphs) s) 0 (longest s.program) 1 (start s input)
    (graph_start graphs s input)

-- the youngest activation stands at a node that leads on in it
abbrev pub leads_on : List Graph → State Position → Bool
leads_on graphs st = elim st.controls [ [] ↦ false | c ∷ _ ↦ is_some (led 0 (kind_here graphs c)) ]

-- Costs of steps over graphs that are dearer than the tokens of nodes: where a node leads on its tokens, where control leaves the
-- activation so much more, and where the run waits or is over the tokens of the longest procedure and so much more.
pub record AreCosts (s : Setting) (graphs : List Graph) (cost : State Position → ℕ) (more : ℕ) : Type 0 where
  pub leading : (st : State Position) → st.store.status ≡ Running → leads_on graphs st ≡ true → cost st ≤ max 1 (tokens_of_youngest graphs st)
  pub running : (st : State Position) → st.store.status ≡ Running → cost st ≤ max 1 (tokens_of_youngest graphs st) + more
  pub resting : (st : State Position) → cost st ≤ max (longest s.program) (tokens_of_youngest graphs st) + more

-- Of the path of a step one node at most leaves its activation; so at such costs a step is dearer by as much.
abbrev pub FlowSimulatesAt : Type 0
FlowSimulatesAt = (s : Setting) (graphs : List Graph) (cost : State Position → ℕ) (more : ℕ) → IsSetUp s → AreFlows s graphs → AreCosts s graphs cost more →
    Simulates (machine_of (todo_control s.program) s) (λ _. longest s.program + more) (machine_of (graph_control graphs) s) cost
    (SoundlyRelated s graphs)

abbrev pub FlowFollowsAt : Type 0
FlowFollowsAt = (s : Setting) (graphs : List Graph) (input : List ℕ) (cost : State Position → ℕ) (more : ℕ) → IsSetUp s → All IsByte input →
    AreFlows s graphs → AreCosts s graphs cost more →
    Follows (machine_of (todo_control s.program) s) (λ _. longest s.program + more) (machine_of (graph_control graphs) s) cost (start s input)
    (graph_start graphs s input)

-- the statements of a program in range are counted
abbrev pub RangeIsCounted : Type 0
RangeIsCounted = (p : Program) → IsInRange p → IsProgramCounted p

-- and what `flow` answers for each of its procedures are its flows
abbrev pub AnswersAreFlows : Type 0
AnswersAreFlows = (s : Setting) (graphs : List Graph) → IsInRange s.program → AllZip IsFlow s.program.procs graphs → AreFlows s graphs

-- no two nodes of what it answers for a procedure in range wait at one site
abbrev pub AnswersWaitOnce : Type 0
AnswersWaitOnce = (p : Program) (q : Proc) (g : Graph) → IsProcInRange p q → IsFlow q g → WaitOnce g

-- and each that waits has the exits of its site
abbrev pub AnswersHaveSites : Type 0
AnswersHaveSites = (p : Program) (q : Proc) (g : Graph) → IsProcInRange p q → IsFlow q g → All (λ node. HasSite q g node.kind) g.nodes

-- and at each site one waits
abbrev pub AnswersWaitAtEach : Type 0
AnswersWaitAtEach = (p : Program) (q : Proc) (g : Graph) (site : ℕ) → IsProcInRange p q → IsFlow q g → site < length q.sites → IsWaitedAt g site

-- It begins at an Entry, and lands at each continuation in a CopyIn; so it is in range where its nodes are.
abbrev pub AnswersLand : Type 0
AnswersLand = (q : Proc) (g : Graph) → IsFlow q g → IsTrue (list_all (is_node g) g.nodes) → IsValid g

-- As its nodes are for a procedure in range, it is a graph of the procedure: in range, with the exits of its sites, and what it names is there.
abbrev pub AnswersAreGraphs : Type 0
AnswersAreGraphs = (p : Program) (q : Proc) (g : Graph) → IsProcInRange p q → IsFlow q g → IsGraphOf p q g

-- And its locals and continuations have at most 8 bytes of a frame for each token of the procedure.
abbrev pub AnswersAreBounded : Type 0
AnswersAreBounded = (p : Program) (q : Proc) (g : Graph) → IsProcInRange p q → IsFlow q g → IsBounded q g

-- And all its nodes have at most twice the tokens of the procedure and two more.
abbrev pub AnswersAreShort : Type 0
AnswersAreShort = (p : Program) (q : Proc) (g : Graph) → IsProcInRange p q → IsFlow q g → IsShort q g

-- And each of its nodes has tokens enough for what it does.
abbrev pub AnswersAreCovered : Type 0
AnswersAreCovered = (p : Program) (q : Proc) (g : Graph) → IsProcInRange p q → IsFlow q g → AreCovered q g

-- And they pass few values.
abbrev pub AnswersPassFew : Type 0
AnswersPassFew = (p : Program) (q : Proc) (g : Graph) → IsProcInRange p q → IsFlow q g → PassFew g

-- And those that yield do so with as many values as their sites say.
abbrev pub AnswersYieldThere : Type 0
AnswersYieldThere = (p : Program) (q : Proc) (g : Graph) → IsProcInRange p q → IsFlow q g → YieldThere q g
