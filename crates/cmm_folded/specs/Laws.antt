-- Folded graphs are the same machine, and folded flows have all that the layers above use of flows.
use Rattle.std.specs.Prelude.{◌≡◌, ℕ, ◌+◌, ◌<◌, List, length}
use Rattle.std.specs.List.{All, AllZip}
use Rattle.cmm_simulation.specs.Following.{Follows}
use Rattle.cmm_machine_laws.specs.Fitting.{IsSetUp}
use Rattle.cmm_program.specs.Memory.{IsByte}
use Rattle.cmm_machine_laws.specs.Observed.{machine_of}
use Rattle.cmm_program.specs.declared.procedure.Proc.{Proc}
use Rattle.cmm_program.specs.declared.program.Program.{Program}
use Rattle.cmm_program.specs.Control.{State}
use Rattle.cmm_program.specs.InRange.{IsInRange, IsProcInRange}
use Rattle.cmm_program.specs.Machine.{start}
use Rattle.cmm_program.specs.State.{Setting}
use Rattle.cmm_program.specs.Todo.{todo_control}
use Rattle.cmm_graph.specs.declared.graph.Graph.{Graph}
use Rattle.cmm_graph.specs.declared.node.NodeKind.TheVariants.{Entry}
use Rattle.cmm_graph.specs.declared.number.NodeId.{NodeId}
use Rattle.cmm_graph.specs.declared.number.Variable.{Variable}
use Rattle.cmm_graph.specs.Counterpart.{HasSite, IsGraphOf}
use Rattle.cmm_graph.specs.GraphControl.{Position, graph_control}
use Rattle.cmm_graph.specs.GraphMachine.{graph_start, tokens_of_youngest}
use Rattle.cmm_fold.specs.Graphs.{GraphStandsFor}
use Rattle.cmm_live.specs.declared.live_sets.LiveSets.{LiveSets}
use Rattle.cmm_live.specs.Exact.{AreLiveSets}
use Rattle.cmm_flow.specs.Code.{IsNode}
use Rattle.cmm_flow.specs.Few.{PassFew, YieldThere}
use Rattle.cmm_flow.specs.Flow.{AreCovered, HasTokens, IsBounded, IsFlow, IsShort}
use Rattle.cmm_flow.specs.Laws.{AreCosts}
use Rattle.cmm_flow.specs.Liveness.{AreSetsAtSite, IsKeptAtSite}
use Rattle.cmm_flow.specs.Relation.{longest}
use Rattle.cmm_flow.specs.Waiting.{IsWaitedAt, WaitOnce}
use Rattle.cmm_folded.specs.Flow.{IsFoldedFlow}

-- ---- folded graphs

-- graphs are one machine: each step, each event and each cost
pub record AreSameMachine (s : Setting) (old new : List Graph) : Type 0 where
  pub machine : machine_of (graph_control new) s ≡ machine_of (graph_control old) s
  pub costs : tokens_of_youngest new ≡ tokens_of_youngest old
  pub start : graph_start new s ≡ graph_start old s

abbrev pub FoldedGraphsDoTheSame : Type 0
FoldedGraphsDoTheSame = (s : Setting) (old new : List Graph) → AllZip GraphStandsFor old new → AreSameMachine s old new

-- sets that have the locals that are live in a folded graph have those of the graph, and the other way round
pub record HaveSameSets (old new : Graph) (found : LiveSets) : Type 0 where
  pub before : AreLiveSets new found → AreLiveSets old found
  pub after : AreLiveSets old found → AreLiveSets new found

abbrev pub FoldedGraphsKeepLiveness : Type 0
FoldedGraphsKeepLiveness = (old new : Graph) (found : LiveSets) → GraphStandsFor old new → HaveSameSets old new found

-- ---- folded flows

-- flows, folded, are folded flows
abbrev pub FlowsFold : Type 0
FlowsFold = (procs : List Proc) (flows graphs : List Graph) → AllZip IsFlow procs flows → AllZip GraphStandsFor flows graphs → AllZip IsFoldedFlow procs graphs

-- A folded flow of a procedure in range is a graph of the procedure,
abbrev pub FoldedFlowsAreGraphs : Type 0
FoldedFlowsAreGraphs = (p : Program) (q : Proc) (g : Graph) → IsProcInRange p q → IsFoldedFlow q g → IsGraphOf p q g

-- its locals and continuations have at most 8 bytes of a frame for each token of the procedure,
abbrev pub FoldedFlowsAreBounded : Type 0
FoldedFlowsAreBounded = (p : Program) (q : Proc) (g : Graph) → IsProcInRange p q → IsFoldedFlow q g → IsBounded q g

-- no two nodes wait at one site,
abbrev pub FoldedFlowsWaitOnce : Type 0
FoldedFlowsWaitOnce = (p : Program) (q : Proc) (g : Graph) → IsProcInRange p q → IsFoldedFlow q g → WaitOnce g

-- each that waits has the exits of its site,
abbrev pub FoldedFlowsHaveSites : Type 0
FoldedFlowsHaveSites = (p : Program) (q : Proc) (g : Graph) → IsProcInRange p q → IsFoldedFlow q g → All (λ node. HasSite q g node.kind) g.nodes

-- at each site one waits,
abbrev pub FoldedFlowsWaitAtEach : Type 0
FoldedFlowsWaitAtEach = (p : Program) (q : Proc) (g : Graph) (site : ℕ) → IsProcInRange p q → IsFoldedFlow q g → site < length q.sites → IsWaitedAt g site

-- each node has tokens enough for what it does,
abbrev pub FoldedFlowsAreCovered : Type 0
FoldedFlowsAreCovered = (p : Program) (q : Proc) (g : Graph) → IsProcInRange p q → IsFoldedFlow q g → AreCovered q g

-- all nodes have at most twice the tokens of the procedure and two more,
abbrev pub FoldedFlowsAreShort : Type 0
FoldedFlowsAreShort = (p : Program) (q : Proc) (g : Graph) → IsProcInRange p q → IsFoldedFlow q g → IsShort q g

-- its first node is an Entry of as many tokens as the procedure,
pub record HasEntry (q : Proc) (g : Graph) : Type 0 where
  pub formals : List Variable
  pub next : NodeId
  pub node : IsNode g.nodes g.first q.tokens (Entry formals next)

abbrev pub FoldedFlowsHaveEntries : Type 0
FoldedFlowsHaveEntries = (q : Proc) (g : Graph) → IsFoldedFlow q g → HasEntry q g

-- its nodes pass few values,
abbrev pub FoldedFlowsPassFew : Type 0
FoldedFlowsPassFew = (p : Program) (q : Proc) (g : Graph) → IsProcInRange p q → IsFoldedFlow q g → PassFew g

-- and those that yield do so with as many values as their sites say.
abbrev pub FoldedFlowsYieldThere : Type 0
FoldedFlowsYieldThere = (p : Program) (q : Proc) (g : Graph) → IsProcInRange p q → IsFoldedFlow q g → YieldThere q g

-- The variables of a procedure that are live at a site, and on its cut exits, are those that are live there by the paths of its folded flow.
abbrev pub FoldedFlowsKeepSites : Type 0
FoldedFlowsKeepSites = (p : Program) (q : Proc) (g : Graph) → IsProcInRange p q → IsFoldedFlow q g → (site v : ℕ) → site < length q.sites → IsKeptAtSite q g site v

-- The sets that are computed for it have just the variables of the procedure that are live at a site, and on its cut exits.
abbrev pub FoldedSetsAreOfProcedure : Type 0
FoldedSetsAreOfProcedure = (p : Program) (q : Proc) (g : Graph) (found : LiveSets) → IsProcInRange p q → IsFoldedFlow q g → AreLiveSets g found →
    (site v : ℕ) → site < length q.sites → v < length q.vars → AreSetsAtSite q g found site v

-- ---- whole runs

-- no node of the folded flows of a program has more tokens than its procedure
abbrev pub FoldedFlowsHaveTokens : Type 0
FoldedFlowsHaveTokens = (p : Program) (graphs : List Graph) → IsInRange p → AllZip IsFoldedFlow p.procs graphs → AllZip HasTokens p.procs graphs

-- So on every input a run over them follows one of the C-- machine, at costs as a layer below has them.
abbrev pub FoldedFlowsFollow : Type 0
FoldedFlowsFollow = (s : Setting) (graphs : List Graph) (input : List ℕ) (cost : State Position → ℕ) (more : ℕ) → IsSetUp s → All IsByte input →
    AllZip IsFoldedFlow s.program.procs graphs → AreCosts s graphs cost more →
    Follows (machine_of (todo_control s.program) s) (λ _. longest s.program + more) (machine_of (graph_control graphs) s) cost (start s input)
    (graph_start graphs s input)
