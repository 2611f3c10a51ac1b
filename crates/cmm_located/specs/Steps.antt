-- What a step of the machine over graphs is over locations.
use Rattle.std.specs.Prelude.{◌≡◌, ◌≢◌, ℕ, Bool, true, false, Contains, [], ◌∷◌, map, slice_get, is_some, Some}
use Rattle.cmm_program.specs.Control.{State}
use Rattle.cmm_program.specs.State.{Setting, Running}
use Rattle.cmm_simulation.specs.Observing.{Passes}
use Rattle.cmm_simulation.specs.Simulation.{Leads}
use Rattle.cmm_machine_laws.specs.Observed.{machine_of}
use Rattle.cmm_graph.specs.declared.number.NodeId.{NodeId}
use Rattle.cmm_graph.specs.declared.operand.Local.{Local}
use Rattle.cmm_graph.specs.declared.node.NodeKind.{NodeKind}
use Rattle.cmm_graph.specs.declared.node.NodeKind.TheVariants.{Stop}
use Rattle.cmm_graph.specs.declared.graph.Graph.{Graph}
use Rattle.cmm_graph.specs.Acting.{led}
use Rattle.cmm_graph.specs.GraphControl.{Position, graph_control, kind_at, kind_here}
use Rattle.cmm_graph.specs.GraphMachine.{tokens_of_youngest}
use Rattle.cmm_graph.specs.Paths.{successors, writes}
use Rattle.cmm_graph.specs.Ranges.{is_local}
use Rattle.cmm_live.specs.Locals.{local_number}
use Rattle.cmm_chain.specs.Plans.{IsPlanned}
use Rattle.cmm_located.specs.Compiled.{Compiled, Located}
use Rattle.cmm_located.specs.LocatedMachine.{located_machine, tokens_at}
use Rattle.cmm_located.specs.Relation.{Liveness, Related}
use Rattle.cmm_located.specs.SameOrders.{HasFrames, ReadsAreLive}

-- A step of the machine over graphs that does not go wrong leads the located machine, by at least one step and for at most a
-- cost, to a state that stands for what it comes to; on the way nothing is shown that the step does not show.
abbrev pub IsFollowed : Setting → Compiled → Liveness → ℕ → State Position → Located → Type 0
IsFollowed s c live cost st at =
    let over_graphs = machine_of (graph_control c.graphs) s in
    let over_places = located_machine s c in
    over_graphs.wrong (over_graphs.step st) ≡ false →
    Leads over_places (tokens_at s c) (Passes over_graphs over_places st) (Related s c live (over_graphs.step st)) 1 cost at

-- ---- what is asked at a node

-- What is live where a node leads is live before it, or is written by it; and what it writes shares its place with nothing else that is
-- live there.
pub record KeepsLive (c : Compiled) (live : Liveness) (q : ℕ) (n : NodeId) (kind : NodeKind) : Type 0 where
  pub written : (g : Graph) (l : Local) → slice_get c.graphs q ≡ Some g → Contains (writes kind) l → is_local g l ≡ true
  pub unwritten : (g : Graph) (m : NodeId) (u : ℕ) → slice_get c.graphs q ≡ Some g → Contains (successors g kind) m → live q m u ≡ true →
      ¬ Contains (map (local_number g) (writes kind)) u → live q n u ≡ true
  pub apart : (g : Graph) (m : NodeId) (u : ℕ) (l : Local) → slice_get c.graphs q ≡ Some g → Contains (successors g kind) m → live q m u ≡ true →
      Contains (writes kind) l → u ≢ local_number g l → c.plan.place q (local_number g l) ≢ c.plan.place q u

-- Every node of a procedure reads what is live, and keeps what is live behind it.
pub record IsClosed (c : Compiled) (live : Liveness) : Type 0 where
  pub reads : (q : ℕ) (n : NodeId) → c.plan.is_procedure q ≡ true → ReadsAreLive c live q n (kind_at c.graphs q n)
  pub keeps : (q : ℕ) (n : NodeId) → c.plan.is_procedure q ≡ true → KeepsLive c live q n (kind_at c.graphs q n)

-- ---- nodes that lead on

-- a node that leads on in its activation
abbrev pub leads_on : NodeKind → Bool
leads_on kind = is_some (led 0 kind)

-- the node at which the youngest activation stands
abbrev pub kind_of_youngest : Compiled → State Position → NodeKind
kind_of_youngest c st = elim st.controls [ [] ↦ Stop | p ∷ _ ↦ kind_here c.graphs p ]

-- A node that leads on is done over locations in one step, at the same cost.
abbrev pub NodesAreFollowed : Type 0
NodesAreFollowed = (s : Setting) (c : Compiled) (live : Liveness) (st : State Position) (at : Located) → HasFrames s c → IsPlanned c.plan → IsClosed c live →
    Related s c live st at → st.store.status ≡ Running → leads_on (kind_of_youngest c st) ≡ true →
    IsFollowed s c live (tokens_of_youngest c.graphs st) st at
