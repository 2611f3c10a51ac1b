-- Folded flows whose constants are hoisted do what the C-- machine does, and have all that the layers above use of flows.
use Rattle.std.specs.Prelude.{◌≡◌, ℕ, ◌+◌, ◌*◌, ◌<◌, ◌≤◌, max, true, IsTrue, List, length}
use Rattle.std.specs.List.{All, AllZip, list_all}
use Rattle.cmm_simulation.specs.Following.{Follows}
use Rattle.cmm_machine_laws.specs.Fitting.{IsSetUp}
use Rattle.cmm_program.specs.Memory.{IsByte}
use Rattle.cmm_machine_laws.specs.Observed.{machine_of}
use Rattle.cmm_program.specs.declared.procedure.Proc.{Proc}
use Rattle.cmm_program.specs.declared.program.Program.{Program}
use Rattle.cmm_program.specs.Bounds as bounds
use Rattle.cmm_program.specs.Control.{State}
use Rattle.cmm_program.specs.InRange.{IsInRange, IsProcInRange}
use Rattle.cmm_program.specs.Machine.{start}
use Rattle.cmm_program.specs.State.{Running, Setting}
use Rattle.cmm_program.specs.Todo.{todo_control}
use Rattle.cmm_graph.specs.declared.graph.Graph.{Graph}
use Rattle.cmm_graph.specs.declared.node.NodeKind.TheVariants.{Entry}
use Rattle.cmm_graph.specs.declared.number.NodeId.{NodeId}
use Rattle.cmm_graph.specs.declared.number.Variable.{Variable}
use Rattle.cmm_graph.specs.Counterpart.{HasSite, IsGraphOf}
use Rattle.cmm_graph.specs.Covering.{covers}
use Rattle.cmm_graph.specs.GraphControl.{Position, graph_control}
use Rattle.cmm_graph.specs.GraphMachine.{graph_start, tokens_of_youngest}
use Rattle.cmm_hoist.specs.Graphs.{AreHoistedWithin, BeginsAtEntry, HasTokensWithin}
use Rattle.cmm_live.specs.declared.live_sets.LiveSets.{LiveSets}
use Rattle.cmm_live.specs.Exact.{AreLiveSets}
use Rattle.cmm_flow.specs.Code.{IsNode}
use Rattle.cmm_flow.specs.Few.{PassFew, YieldThere}
use Rattle.cmm_flow.specs.Flow.{IsBounded, IsShort}
use Rattle.cmm_flow.specs.Laws.{leads_on}
use Rattle.cmm_flow.specs.Liveness.{AreSetsAtSite}
use Rattle.cmm_flow.specs.Relation.{longest}
use Rattle.cmm_flow.specs.Waiting.{IsWaitedAt, WaitOnce}
use Rattle.cmm_folded.specs.Flow.{IsFoldedFlow}
use Rattle.cmm_hoisted.specs.Flow.{AreFlowsWithin, IsHoistedFlow, entry_tokens}

-- ---- the graphs of a program

-- what hoisting asks of folded flows
pub record CanBeHoisted (p : Program) (graphs : List Graph) : Type 0 where
  pub begin : All BeginsAtEntry graphs
  pub tokens : All (HasTokensWithin (bounds.longest p.procs)) graphs

abbrev pub FoldedFlowsCanBeHoisted : Type 0
FoldedFlowsCanBeHoisted = (p : Program) (graphs : List Graph) → IsInRange p → AllZip IsFoldedFlow p.procs graphs → CanBeHoisted p graphs

-- folded flows, hoisted, are hoisted flows
abbrev pub FlowsHoist : Type 0
FlowsHoist = (p : Program) (folded graphs : List Graph) → AllZip IsFoldedFlow p.procs folded → AreHoistedWithin (bounds.longest p.procs) folded graphs → AreFlowsWithin p graphs

-- each of them is a hoisted flow
abbrev pub FlowsWithinAreHoisted : Type 0
FlowsWithinAreHoisted = (p : Program) (graphs : List Graph) → AreFlowsWithin p graphs → AllZip IsHoistedFlow p.procs graphs

-- and no node has more tokens than the longest procedure
abbrev pub FlowsWithinAreFewer : Type 0
FlowsWithinAreFewer = (p : Program) (graphs : List Graph) → IsInRange p → (within : AreFlowsWithin p graphs) → within.most ≤ longest p

-- ---- hoisted flows

-- A hoisted flow of a procedure in range is a graph of the procedure,
abbrev pub HoistedFlowsAreGraphs : Type 0
HoistedFlowsAreGraphs = (p : Program) (q : Proc) (g : Graph) → IsProcInRange p q → IsHoistedFlow q g → IsGraphOf p q g

-- its locals and continuations have at most 8 bytes of a frame for each token of the procedure,
abbrev pub HoistedFlowsAreBounded : Type 0
HoistedFlowsAreBounded = (p : Program) (q : Proc) (g : Graph) → IsProcInRange p q → IsHoistedFlow q g → IsBounded q g

-- and for each token of its Entry, which has no more than the procedure, and 5 at least,
pub record HasRoom (q : Proc) (g : Graph) : Type 0 where
  pub frame : 8 * (g.variables + g.temporaries) + 16 * length g.continuations ≤ 8 * entry_tokens g
  pub fewer : entry_tokens g ≤ q.tokens
  pub some : 5 ≤ entry_tokens g

abbrev pub HoistedFlowsHaveRoom : Type 0
HoistedFlowsHaveRoom = (p : Program) (q : Proc) (g : Graph) → IsProcInRange p q → IsHoistedFlow q g → HasRoom q g

-- no two nodes wait at one site,
abbrev pub HoistedFlowsWaitOnce : Type 0
HoistedFlowsWaitOnce = (p : Program) (q : Proc) (g : Graph) → IsProcInRange p q → IsHoistedFlow q g → WaitOnce g

-- each that waits has the exits of its site,
abbrev pub HoistedFlowsHaveSites : Type 0
HoistedFlowsHaveSites = (p : Program) (q : Proc) (g : Graph) → IsProcInRange p q → IsHoistedFlow q g → All (λ node. HasSite q g node.kind) g.nodes

-- at each site one waits,
abbrev pub HoistedFlowsWaitAtEach : Type 0
HoistedFlowsWaitAtEach = (p : Program) (q : Proc) (g : Graph) (site : ℕ) → IsProcInRange p q → IsHoistedFlow q g → site < length q.sites → IsWaitedAt g site

-- each node has tokens enough for what it does, where the Entry has those that it left itself,
abbrev pub HoistedFlowsAreCovered : Type 0
HoistedFlowsAreCovered = (p : Program) (q : Proc) (g : Graph) → IsProcInRange p q → IsHoistedFlow q g → IsTrue (list_all (covers (entry_tokens g)) g.nodes)

-- all nodes have at most twice the tokens of the procedure and two more,
abbrev pub HoistedFlowsAreShort : Type 0
HoistedFlowsAreShort = (p : Program) (q : Proc) (g : Graph) → IsProcInRange p q → IsHoistedFlow q g → IsShort q g

-- its first node is an Entry,
pub record HasEntry (g : Graph) : Type 0 where
  pub formals : List Variable
  pub next : NodeId
  pub node : IsNode g.nodes g.first (entry_tokens g) (Entry formals next)

abbrev pub HoistedFlowsHaveEntries : Type 0
HoistedFlowsHaveEntries = (q : Proc) (g : Graph) → IsHoistedFlow q g → HasEntry g

-- its nodes pass few values,
abbrev pub HoistedFlowsPassFew : Type 0
HoistedFlowsPassFew = (p : Program) (q : Proc) (g : Graph) → IsProcInRange p q → IsHoistedFlow q g → PassFew g

-- and those that yield do so with as many values as their sites say.
abbrev pub HoistedFlowsYieldThere : Type 0
HoistedFlowsYieldThere = (p : Program) (q : Proc) (g : Graph) → IsProcInRange p q → IsHoistedFlow q g → YieldThere q g

-- The sets that are computed for it have just the variables of the procedure that are live at a site, and on its cut exits.
abbrev pub HoistedSetsAreOfProcedure : Type 0
HoistedSetsAreOfProcedure = (p : Program) (q : Proc) (g : Graph) (found : LiveSets) → IsProcInRange p q → IsHoistedFlow q g → AreLiveSets g found →
    (site v : ℕ) → site < length q.sites → v < length q.vars → AreSetsAtSite q g found site v

-- ---- whole runs

-- Costs of steps over graphs: where a node leads on its tokens, where control leaves the activation so much more, and where the run waits or is over
-- twice as much at most.
pub record AreCostsWithin (graphs : List Graph) (cost : State Position → ℕ) (most : ℕ) : Type 0 where
  pub leading : (st : State Position) → st.store.status ≡ Running → leads_on graphs st ≡ true → cost st ≤ max 1 (tokens_of_youngest graphs st)
  pub running : (st : State Position) → st.store.status ≡ Running → cost st ≤ max 1 (tokens_of_youngest graphs st) + most
  pub resting : (st : State Position) → cost st ≤ max most (tokens_of_youngest graphs st) + most

-- On every input a run over the graphs of a program follows one of the C-- machine at such costs: a step of the machine costs at most twice the tokens of the
-- longest procedure, those of the nodes that give a procedure its constants among them.
abbrev pub HoistedFlowsFollow : Type 0
HoistedFlowsFollow = (s : Setting) (graphs : List Graph) (input : List ℕ) (cost : State Position → ℕ) (within : AreFlowsWithin s.program graphs) → IsSetUp s →
    All IsByte input → AreCostsWithin graphs cost within.most →
    Follows (machine_of (todo_control s.program) s) (λ _. longest s.program + longest s.program) (machine_of (graph_control graphs) s) cost (start s input)
    (graph_start graphs s input)
