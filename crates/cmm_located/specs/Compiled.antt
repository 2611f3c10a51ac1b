-- The procedures of a program as they are compiled, and a state of the machine that runs them over locations.
use Rattle.std.specs.Prelude.{ℕ, ◌==◌, Bool, false, List, [], find, slice_get, Option, Some, None}
use Rattle.cmm_program.specs.Errors.{with_some}
use Rattle.cmm_program.specs.State.{Activation, Store}
use Rattle.cmm_graph.specs.declared.number.NodeId.{NodeId}
use Rattle.cmm_graph.specs.declared.operand.Local.{Local}
use Rattle.cmm_graph.specs.declared.node.Exits.{Exits}
use Rattle.cmm_graph.specs.declared.node.NodeKind.{NodeKind}
use Rattle.cmm_graph.specs.declared.node.NodeKind.TheVariants.{Call, Yield}
use Rattle.cmm_graph.specs.declared.graph.Graph.{Graph}
use Rattle.cmm_graph.specs.GraphControl.{in_graph}
use Rattle.cmm_graph.specs.Paths.{landing_of}
use Rattle.cmm_live.specs.Locals.{local_number}
use Rattle.cmm_live.specs.Sites.{site_of}
use Rattle.cmm_chain.specs.declared.frame.Location.{Location}
use Rattle.cmm_chain.specs.Plans.{Plan}
use Rattle.cmm_chain.specs.Running.{Holdings}

pub record Compiled : Type 0 where
  -- a graph for each procedure
  pub graphs : List Graph
  pub plan : Plan
  -- the locals of a procedure that are made 0 when it is entered, by their numbers
  pub zeroed : ℕ → List ℕ

-- A state. Control goes by the words of the stack alone. The activations of the store have no values; they say by which rooms memory
-- shrinks when activations go, and control is wrong where it leads to another one than they do.
pub record Located : Type 0 where
  pub store : Store
  pub holdings : Holdings
  -- where it stands
  pub procedure : ℕ
  pub node : NodeId
  -- what control brings to the Entry or the CopyIn at which it stands
  pub carried : List ℕ

-- an activation without its values
abbrev pub bare : Activation → Activation
bare a = record a { variables = [] }

-- ---- places

-- the number of a local among those of a procedure
abbrev pub number_in : List Graph → ℕ → Local → ℕ
number_in graphs q l = elim (slice_get graphs q) [ Some g ↦ local_number g l | None ↦ 0 ]

abbrev pub place_of : Compiled → ℕ → Local → Location
place_of c q l = c.plan.place q (number_in c.graphs q l)

-- ---- where exits lead

abbrev pub waits_at : ℕ → NodeKind → Bool
waits_at site kind = elim (site_of kind) [ Some s ↦ s.number == site | None ↦ false ]

abbrev pub exits_of : NodeKind → Option Exits
exits_of (Call site callee arguments exits) = Some exits
exits_of (Yield site values exits) = Some exits
exits_of _ = None

-- the exits of a site of a procedure
abbrev pub site_exits : List Graph → ℕ → ℕ → Option Exits
site_exits graphs q site = in_graph graphs q (λ g. with_some (find (λ node. waits_at site node.kind) g.nodes) (λ node. exits_of node.kind))

-- the CopyIn of a continuation of a procedure
abbrev pub landing_in : List Graph → ℕ → ℕ → Option NodeId
landing_in graphs q k = in_graph graphs q (λ g. landing_of g record { number = k })
