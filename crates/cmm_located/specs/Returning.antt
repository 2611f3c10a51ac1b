-- Control goes back to an activation that waits: what the machine over graphs does as it lands is a step at the CopyIn over locations.
use Rattle.std.specs.Prelude.{◌≡◌, ℕ, ◌+◌, ◌≤◌, Bool, true, false, Contains, List, slice_get, Some}
use Rattle.cmm_program.specs.declared.procedure.Proc.{Proc}
use Rattle.cmm_program.specs.declared.procedure.Cont.{Cont}
use Rattle.cmm_program.specs.declared.procedure.Site.{Site}
use Rattle.cmm_program.specs.declared.procedure.Target.{Target}
use Rattle.cmm_program.specs.Control.{State}
use Rattle.cmm_program.specs.Frames.{procedure_at}
use Rattle.cmm_program.specs.State.{Setting, Running}
use Rattle.cmm_graph.specs.declared.number.NodeId.{NodeId}
use Rattle.cmm_graph.specs.declared.node.Exits.{Exits}
use Rattle.cmm_graph.specs.declared.node.NodeKind.{NodeKind}
use Rattle.cmm_graph.specs.declared.node.NodeKind.TheVariants.{CopyIn, Return}
use Rattle.cmm_graph.specs.Counterpart.{numbers_of, parameter_targets}
use Rattle.cmm_graph.specs.GraphControl.{Position, kind_at}
use Rattle.cmm_graph.specs.GraphMachine.{tokens_of_youngest}
use Rattle.cmm_live.specs.Sites.{site_of}
use Rattle.cmm_chain.specs.Plans.{IsPlanned}
use Rattle.cmm_located.specs.Compiled.{Compiled, Located, exits_of, landing_in, site_exits}
use Rattle.cmm_located.specs.Entering.{IsWithinMost}
use Rattle.cmm_located.specs.Relation.{Liveness, Related}
use Rattle.cmm_located.specs.SameOrders.{HasFrames}
use Rattle.cmm_located.specs.Steps.{IsClosed, IsFollowed, kind_of_youngest}

-- Where an exit of a site leads: a CopyIn by which these take what the exit brings. What is live before it is live at the site.
pub record LandsAt (c : Compiled) (live : Liveness) (q site : ℕ) (to : List Target) (n : NodeId) : Type 0 where
  pub next : NodeId
  pub is_copy : kind_at c.graphs q n ≡ CopyIn to next
  pub at_site : (u : ℕ) → live q n u ≡ true → c.plan.live q site u ≡ true

-- the exits of a site of a procedure are those of its node: results take what the normal one brings, and the parameters of a
-- continuation what an alternate one or an unwinding does
pub record HasExits (c : Compiled) (live : Liveness) (q : ℕ) (p : Proc) (number : ℕ) (site : Site) : Type 0 where
  pub exits : Exits
  pub is_exits : site_exits c.graphs q number ≡ Some exits
  pub of_node : (n : NodeId) → site_of (kind_at c.graphs q n) ≡ Some (record { number = number }) → exits_of (kind_at c.graphs q n) ≡ Some exits
  pub returns : numbers_of exits.returns ≡ site.returns
  pub normal : site.never ≡ false → (n : NodeId) × (exits.normal ≡ Some n) × LandsAt c live q number site.results n
  pub alternate : (k : ℕ) (cont : Cont) → Contains site.returns k → slice_get p.conts k ≡ Some cont →
      (n : NodeId) × (landing_in c.graphs q k ≡ Some n) × LandsAt c live q number (parameter_targets p cont) n
  pub unwinds : (k : ℕ) (cont : Cont) → Contains site.unwinds k → slice_get p.conts k ≡ Some cont →
      (n : NodeId) × (landing_in c.graphs q k ≡ Some n) × LandsAt c live q number (parameter_targets p cont) n

-- each site of the program has its exits
abbrev pub HaveExits : Setting → Compiled → Liveness → Type 0
HaveExits s c live = (q : ℕ) (p : Proc) (number : ℕ) (site : Site) → procedure_at s q ≡ Some p → slice_get p.sites number ≡ Some site →
    HasExits c live q p number site

abbrev pub is_return : NodeKind → Bool
is_return (Return exit alternates results) = true
is_return _ = false

-- a return is by an exit that it may have
abbrev pub IsInRange : NodeKind → Type 0
IsInRange (Return exit alternates results) = exit ≤ alternates
IsInRange _ = Unit {0}

abbrev pub ReturnsAreInRange : Compiled → Type 0
ReturnsAreInRange c = (q : ℕ) (n : NodeId) → c.plan.is_procedure q ≡ true → IsInRange (kind_at c.graphs q n)

-- A return is done over locations in at most two steps: the frame goes, and the CopyIn of the exit takes the values.
abbrev pub ReturnsAreFollowed : Type 0
ReturnsAreFollowed = (s : Setting) (c : Compiled) (live : Liveness) (most : ℕ) (st : State Position) (at : Located) → HasFrames s c → IsPlanned c.plan →
    IsClosed c live → HaveExits s c live → ReturnsAreInRange c → IsWithinMost c most → Related s c live st at → st.store.status ≡ Running →
    is_return (kind_of_youngest c st) ≡ true → IsFollowed s c live (tokens_of_youngest c.graphs st + most) st at
