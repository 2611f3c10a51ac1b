-- A cut: control moves to the frame of an activation that lists the continuation, and no register is restored.
use Rattle.std.specs.Prelude.{◌≡◌, ℕ, ◌+◌, Bool, true, false, Contains, List, length, slice_get, is_some, Some}
use Rattle.cmm_program.specs.declared.procedure.Cont.{Cont}
use Rattle.cmm_program.specs.declared.procedure.Proc.{Proc}
use Rattle.cmm_program.specs.declared.procedure.Site.{Site}
use Rattle.cmm_program.specs.declared.procedure.Target.{Target}
use Rattle.cmm_program.specs.Control.{State}
use Rattle.cmm_program.specs.Frames.{place_row, procedure_at}
use Rattle.cmm_program.specs.State.{Setting, Running}
use Rattle.cmm_graph.specs.declared.number.NodeId.{NodeId}
use Rattle.cmm_graph.specs.declared.node.NodeKind.{NodeKind}
use Rattle.cmm_graph.specs.declared.node.NodeKind.TheVariants.{CopyIn, Cut}
use Rattle.cmm_graph.specs.Counterpart.{numbers_of, parameter_targets}
use Rattle.cmm_graph.specs.GraphControl.{Position, kind_at}
use Rattle.cmm_graph.specs.GraphMachine.{tokens_of_youngest}
use Rattle.cmm_chain.specs.declared.frame.Location.TheVariants.{Slot}
use Rattle.cmm_abi.specs.Registers.{is_callee_saves}
use Rattle.cmm_chain.specs.Plans.{IsPlanned, saved_at}
use Rattle.cmm_chain.specs.Running.{lasts}
use Rattle.cmm_located.specs.Compiled.{Compiled, Located, landing_in}
use Rattle.cmm_located.specs.Entering.{IsWithinMost}
use Rattle.cmm_located.specs.Relation.{Liveness, Related}
use Rattle.cmm_located.specs.Returning.{LandsAt}
use Rattle.cmm_located.specs.SameOrders.{HasFrames}
use Rattle.cmm_located.specs.Steps.{IsClosed, IsFollowed, kind_of_youngest}

-- A cut exit of a site leads to the CopyIn of its continuation. The procedure saves every callee-saves register, and what is live there
-- stands in slots.
pub record LandsByCut (c : Compiled) (live : Liveness) (q site k : ℕ) (to : List Target) : Type 0 where
  pub node : NodeId
  pub is_node : landing_in c.graphs q k ≡ Some node
  pub lands : LandsAt c live q site to node
  pub saves : (r : ℕ) → is_callee_saves r ≡ true → is_some (saved_at c.plan q r) ≡ true
  pub in_slots : (u : ℕ) → live q node u ≡ true → (offset : ℕ) × (c.plan.place q u ≡ Slot offset)

abbrev pub HaveCuts : Setting → Compiled → Liveness → Type 0
HaveCuts s c live = (q : ℕ) (p : Proc) (number : ℕ) (site : Site) (k : ℕ) (cont : Cont) → procedure_at s q ≡ Some p → slice_get p.sites number ≡ Some site →
    Contains site.cuts k → slice_get p.conts k ≡ Some cont → LandsByCut c live q number k (parameter_targets p cont)

-- A cut to a continuation of its own activation leads to its CopyIn. What is live there is live before the cut, in a place that lasts.
pub record LandsInside (c : Compiled) (live : Liveness) (q : ℕ) (n : NodeId) (k : ℕ) (to : List Target) : Type 0 where
  pub node : NodeId
  pub next : NodeId
  pub is_node : landing_in c.graphs q k ≡ Some node
  pub is_copy : kind_at c.graphs q node ≡ CopyIn to next
  pub kept : (u : ℕ) → live q node u ≡ true → (live q n u ≡ true) × (lasts (c.plan.place q u) ≡ true)

abbrev pub LandInside : Compiled → Liveness → ℕ → Proc → NodeId → NodeKind → Type 0
LandInside c live q p n (Cut to arguments own) = (k : ℕ) (cont : Cont) → Contains (numbers_of own) k → slice_get p.conts k ≡ Some cont →
    LandsInside c live q n k (parameter_targets p cont)
LandInside c live q p n _ = Unit {0}

abbrev pub HaveOwnCuts : Setting → Compiled → Liveness → Type 0
HaveOwnCuts s c live = (q : ℕ) (p : Proc) (n : NodeId) → procedure_at s q ≡ Some p → LandInside c live q p n (kind_at c.graphs q n)

-- a procedure has a pair for each continuation
abbrev pub HavePairs : Setting → Type 0
HavePairs s = (q : ℕ) (p : Proc) → procedure_at s q ≡ Some p → length (place_row s q).pairs ≡ length p.conts

abbrev pub is_cut : NodeKind → Bool
is_cut (Cut to arguments own) = true
is_cut _ = false

-- A cut is done over locations in two steps: control moves to the frame, and the CopyIn of the continuation takes the values.
abbrev pub CutsAreFollowed : Type 0
CutsAreFollowed = (s : Setting) (c : Compiled) (live : Liveness) (most : ℕ) (st : State Position) (at : Located) → HasFrames s c → IsPlanned c.plan →
    IsClosed c live → HaveCuts s c live → HaveOwnCuts s c live → HavePairs s → IsWithinMost c most → Related s c live st at → st.store.status ≡ Running →
    is_cut (kind_of_youngest c st) ≡ true → IsFollowed s c live (tokens_of_youngest c.graphs st + most) st at
