-- A procedure is entered: what the machine over graphs does as it lands is a step at the Entry over locations.
use Rattle.std.specs.Prelude.{◌≡◌, ◌≢◌, ◌⊎◌, ℕ, ◌+◌, ◌<◌, ◌≤◌, Bool, true, false, Contains, List, map, length, Some}
use Rattle.std.specs.List.{range_with_len}
use Rattle.cmm_program.specs.declared.procedure.Proc.{Proc}
use Rattle.cmm_program.specs.Control.{State, landed}
use Rattle.cmm_program.specs.Exits.{Instead}
use Rattle.cmm_program.specs.Frames.{procedure_at}
use Rattle.cmm_program.specs.State.{Setting, Activation, Store, Running, stack_top}
use Rattle.cmm_graph.specs.declared.number.NodeId.{NodeId}
use Rattle.cmm_graph.specs.declared.number.SiteId.{SiteId}
use Rattle.cmm_graph.specs.declared.number.Variable.{Variable}
use Rattle.cmm_graph.specs.declared.node.NodeKind.{NodeKind}
use Rattle.cmm_graph.specs.declared.node.NodeKind.TheVariants.{Entry, Call, Jump}
use Rattle.cmm_graph.specs.GraphControl.{Position, graph_control, in_graph, kind_at}
use Rattle.cmm_graph.specs.GraphMachine.{graph_start, tokens_at, tokens_of_youngest}
use Rattle.cmm_live.specs.Sites.{site_of}
use Rattle.cmm_chain.specs.Chain.{IsChain}
use Rattle.cmm_chain.specs.Plans.{IsPlanned}
use Rattle.cmm_chain.specs.Running.{Holdings, lasts}
use Rattle.cmm_located.specs.Compiled.{Compiled, Located, bare}
use Rattle.cmm_located.specs.LocatedMachine.{located_start, located_step}
use Rattle.cmm_located.specs.Relation.{Liveness, AllWait, Related, suspensions, variable_count}
use Rattle.cmm_located.specs.SameOrders.{HasFrames}
use Rattle.cmm_located.specs.Steps.{IsClosed, IsFollowed, kind_of_youngest}

-- A procedure has its Entry. What is live behind that is a formal or is made 0; and a formal shares its place with nothing else that is
-- live there.
pub record HasEntry (c : Compiled) (live : Liveness) (q : ℕ) (p : Proc) : Type 0 where
  pub exists : c.plan.is_procedure q ≡ true
  pub variables : variable_count c.graphs q ≡ length p.vars
  pub first : NodeId
  pub formals : List Variable
  pub next : NodeId
  pub is_first : in_graph c.graphs q (λ g. Some g.first) ≡ Some first
  pub is_entry : kind_at c.graphs q first ≡ Entry formals next
  pub numbered : map (λ v. v.number) formals ≡ range_with_len 0 p.formals
  pub formals_are_variables : p.formals ≤ length p.vars
  pub known : (u : ℕ) → live q next u ≡ true → (u < p.formals) ⊎ Contains (c.zeroed q) u
  pub apart : (u v : ℕ) → live q next u ≡ true → v < p.formals → u ≢ v → c.plan.place q v ≢ c.plan.place q u

-- Control is at the Entry of a procedure, with arguments and below a chain: the step there comes to what stands for the new activation,
-- or for the end at the stack limit.
abbrev pub ProceduresAreEntered : Type 0
ProceduresAreEntered = (s : Setting) (c : Compiled) (live : Liveness) (q : ℕ) (p : Proc) (values : List ℕ) (store : Store) (older : List Activation)
    (ps : List Position) (h : Holdings) → HasFrames s c → IsPlanned c.plan → procedure_at s q ≡ Some p → (entry : HasEntry c live q p) → length values ≡ p.formals →
    IsChain c.plan (stack_top s) h.contents (suspensions c.graphs older ps) h.point → AllWait c.graphs older ps →
    Related s c live (landed (graph_control c.graphs) s (Instead q values) (record store { activations = older; status = Running }) ps)
    (located_step s c (record {
      store = record store { activations = map bare older; status = Running };
      holdings = h;
      procedure = q;
      node = entry.first;
      carried = values;
    }))

-- ---- calls and tail calls

-- every procedure of the program has its Entry
abbrev pub HaveEntries : Setting → Compiled → Liveness → Type 0
HaveEntries s c live = (q : ℕ) (p : Proc) → procedure_at s q ≡ Some p → HasEntry c live q p

-- what is live at the site of a node is live before the node, in a place that lasts over calls
pub record IsReady (c : Compiled) (live : Liveness) (q : ℕ) (n : NodeId) (kind : NodeKind) : Type 0 where
  pub ready : (site : SiteId) (v : ℕ) → site_of kind ≡ Some site → c.plan.live q site.number v ≡ true → (lasts (c.plan.place q v) ≡ true) × (live q n v ≡ true)

abbrev pub AreReady : Compiled → Liveness → Type 0
AreReady c live = (q : ℕ) (n : NodeId) → c.plan.is_procedure q ≡ true → IsReady c live q n (kind_at c.graphs q n)

-- no node has more tokens
abbrev pub IsWithinMost : Compiled → ℕ → Type 0
IsWithinMost c most = (p : Position) → tokens_at c.graphs p ≤ most

-- nodes at which a procedure is entered
abbrev pub enters_procedure : NodeKind → Bool
enters_procedure (Call site callee arguments exits) = true
enters_procedure (Jump callee arguments) = true
enters_procedure _ = false

-- A call and a tail call are done over locations in two steps, at the cost of their node and of an Entry.
abbrev pub CallsAreFollowed : Type 0
CallsAreFollowed = (s : Setting) (c : Compiled) (live : Liveness) (most : ℕ) (st : State Position) (at : Located) → HasFrames s c → IsPlanned c.plan →
    IsClosed c live → HaveEntries s c live → AreReady c live → IsWithinMost c most → Related s c live st at → st.store.status ≡ Running →
    enters_procedure (kind_of_youngest c st) ≡ true → IsFollowed s c live (tokens_of_youngest c.graphs st + most) st at

-- ---- the start

-- A located run begins at the Entry of `main`, and comes from there to what stands for the first state over graphs.
abbrev pub RunsBeginAlike : Type 0
RunsBeginAlike = (s : Setting) (c : Compiled) (live : Liveness) (p : Proc) (input : List ℕ) → HasFrames s c → IsPlanned c.plan →
    procedure_at s s.program.main ≡ Some p → p.formals ≡ 0 → HasEntry c live s.program.main p →
    Related s c live (graph_start c.graphs s input) (located_step s c (located_start s c input))
