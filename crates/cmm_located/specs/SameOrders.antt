-- A node that is no assignment asks for the same over locations as over a graph: the same order, with the same numbers.
use Rattle.std.specs.Prelude.{◌≡◌, ℕ, true, false, Contains, List, ◌∷◌, slice_get, Some}
use Rattle.cmm_program.specs.Acts.{evaluated}
use Rattle.cmm_program.specs.Control.{State}
use Rattle.cmm_program.specs.Frames.{place_row, frame_address}
use Rattle.cmm_program.specs.State.{Setting, Activation}
use Rattle.cmm_program.specs.Writes.{reads_of}
use Rattle.cmm_graph.specs.declared.number.NodeId.{NodeId}
use Rattle.cmm_graph.specs.declared.operand.Local.{Local}
use Rattle.cmm_graph.specs.declared.node.NodeKind.{NodeKind}
use Rattle.cmm_graph.specs.declared.graph.Graph.{Graph}
use Rattle.cmm_graph.specs.Acting.{act_of}
use Rattle.cmm_graph.specs.GraphControl as graph
use Rattle.cmm_graph.specs.GraphControl.{Position}
use Rattle.cmm_graph.specs.Laws.{is_assignment}
use Rattle.cmm_graph.specs.Paths.{reads}
use Rattle.cmm_graph.specs.Ranges.{is_local}
use Rattle.cmm_live.specs.Locals.{local_number}
use Rattle.cmm_located.specs.Compiled.{Compiled, Located}
use Rattle.cmm_located.specs.Nodes.{keeping, reads_at}
use Rattle.cmm_located.specs.Relation.{Liveness, Runs}

-- the frames of the plan are those of the placement
pub record HasFrames (s : Setting) (c : Compiled) : Type 0 where
  pub size : (q : ℕ) → c.plan.is_procedure q ≡ true → (c.plan.frame q).size ≡ (place_row s q).frame
  pub pairs : (q : ℕ) → c.plan.is_procedure q ≡ true → (c.plan.frame q).pairs ≡ (place_row s q).pairs
  pub stack : (q : ℕ) → c.plan.is_procedure q ≡ true → (c.plan.frame q).stack ≡ (place_row s q).stack

-- what a node of a procedure reads is live before it
pub record ReadsAreLive (c : Compiled) (live : Liveness) (q : ℕ) (n : NodeId) (kind : NodeKind) : Type 0 where
  pub of : Graph
  pub is_graph : slice_get c.graphs q ≡ Some of
  pub reads_live : (l : Local) → Contains (reads kind) l → (is_local of l ≡ true) × (live q n (local_number of l) ≡ true)

-- the youngest frame is where the machine over graphs has it
abbrev pub FrameIsThere : Type 0
FrameIsThere = (s : Setting) (c : Compiled) (live : Liveness) (a : Activation) (older : List Activation) (p : Position) (ps : List Position) (at : Located) →
    HasFrames s c → Runs s c live a older p ps at → at.holdings.point.at ≡ frame_address s (a ∷ older)

abbrev pub SameOrders : Type 0
SameOrders = (s : Setting) (c : Compiled) (live : Liveness) (st : State Position) (a : Activation) (older : List Activation) (p : Position) (ps : List Position)
    (at : Located) (kind : NodeKind) → HasFrames s c → st.store.activations ≡ a ∷ older → at.store ≡ record st.store { activations = at.store.activations } →
    Runs s c live a older p ps at → ReadsAreLive c live a.procedure p.node kind → is_assignment kind ≡ false →
    evaluated (reads_at s c at) (act_of (keeping s c at) kind) ≡ evaluated (reads_of s st.store) (act_of (graph.keeping p) kind)
