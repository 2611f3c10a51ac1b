-- The control of the graph machine: at which node an activation stands, and its temporaries. Variables stand in the store, as
-- in the C-- machine, and both machines do the same orders and landings to it (Ramsey and Peyton Jones, PLDI 2000, the
-- abstract machine).
use Rattle.std.specs.Prelude.{ℕ, ◌==◌, true, false, List, [], ◌∷◌, slice_get, Ok, Option, Some, None}
use Rattle.cmm_program.specs.Errors.{with_some}
use Rattle.cmm_program.specs.Values.{Value}
use Rattle.cmm_program.specs.Acts as act
use Rattle.cmm_program.specs.Acts.{Act}
use Rattle.cmm_program.specs.Orders.{Held}
use Rattle.cmm_program.specs.Control.{Control}
use Rattle.cmm_graph.specs.declared.number.NodeId.{NodeId}
use Rattle.cmm_graph.specs.declared.number.Temporary.{Temporary}
use Rattle.cmm_graph.specs.declared.operand.Local.{Local}
use Rattle.cmm_graph.specs.declared.operand.Local.TheVariants as local
use Rattle.cmm_graph.specs.declared.operand.Destination.{Destination}
use Rattle.cmm_graph.specs.declared.operand.Destination.TheVariants as destination
use Rattle.cmm_graph.specs.declared.node.NodeKind.{NodeKind}
use Rattle.cmm_graph.specs.declared.node.NodeKind.TheVariants.{Entry, CopyIn, Assign, Call, Yield, Stop}
use Rattle.cmm_graph.specs.declared.graph.Graph.{Graph}
use Rattle.cmm_graph.specs.Paths.{node_of, landing_of}
use Rattle.cmm_graph.specs.Acting.{Keeping, act_of, led}

-- where an activation stands: the number of its procedure, a node of that procedure's graph, and what its temporaries hold
pub record Position : Type 0 where
  pub procedure : ℕ
  pub node : NodeId
  pub temporaries : Temporary → ℕ

-- ---- nodes of a program's graphs, one graph for each procedure

abbrev pub in_graph : {A : Type 0} → List Graph → ℕ → (Graph → Option A) → Option A
in_graph graphs q f = with_some (slice_get graphs q) f

-- what a node is; where there is none, it is as at the end of a body
abbrev pub kind_at : List Graph → ℕ → NodeId → NodeKind
kind_at graphs q n = elim (in_graph graphs q (λ g. node_of g n)) [ Some node ↦ node.kind | None ↦ Stop ]

abbrev pub kind_here : List Graph → Position → NodeKind
kind_here graphs c = kind_at graphs c.procedure c.node

-- ---- locals

-- a temporary with a value
abbrev pub with_temporary : Temporary → ℕ → (Temporary → ℕ) → Temporary → ℕ
with_temporary t value temporaries u = elim (u.number == t.number) [ true ↦ value | false ↦ temporaries u ]

abbrev pub held_by : (Temporary → ℕ) → Local → Value
held_by temporaries (local.Variable v) reads = Ok (reads.variable v.number)
held_by temporaries (local.Temporary t) reads = Ok (temporaries t)

-- The store lacks the temporaries, so the value of one is the way on.
abbrev pub put_to : Destination → Value → Act
put_to (destination.Target t) value = act.Assign ((λ reads. Ok (Held t)) ∷ []) (value ∷ [])
put_to (destination.Temporary t) value = act.Choose value

abbrev pub keeping : Position → Keeping
keeping c = record { held = held_by c.temporaries; put = put_to }

abbrev pub temporaries_after : ℕ → NodeKind → (Temporary → ℕ) → Temporary → ℕ
temporaries_after way (Assign (destination.Temporary t) value next) temporaries = with_temporary t way temporaries
temporaries_after way _ temporaries = temporaries

-- ---- landings

-- behind the Entry or the CopyIn to which a landing leads
abbrev pub behind : NodeKind → NodeId → NodeId
behind (Entry formals next) n = next
behind (CopyIn to next) n = next
behind _ n = n

-- the CopyIn of the normal exit of a node's site
abbrev pub normal_of : NodeKind → Option NodeId
normal_of (Call site callee arguments exits) = exits.normal
normal_of (Yield site values exits) = exits.normal
normal_of _ = None

-- a position moved to a node, or left where there is none
abbrev pub moved_to : Option NodeId → Position → Position
moved_to (Some n) c = record c { node = n }
moved_to None c = c

-- a position where a landing leads to a node
abbrev pub landed_at : List Graph → Option NodeId → Position → Position
landed_at graphs to c = moved_to (with_some to (λ n. Some (behind (kind_at graphs c.procedure n) n))) c

-- ---- the control

-- An activation stays at the node of its site while it waits there. A landing is done when control comes to it, so that
-- activations stand behind Entries and CopyIns and never at one.
abbrev pub graph_control : List Graph → Control Position
graph_control graphs = record {
  act = λ c. act_of (keeping c) (kind_here graphs c);
  on = λ way c.
      let kind = kind_here graphs c in
      moved_to (led way kind) record c { temporaries = temporaries_after way kind c.temporaries };
  later = λ c. c;
  back = λ c. landed_at graphs (normal_of (kind_here graphs c)) c;
  resume = λ k c. landed_at graphs (in_graph graphs c.procedure (λ g. landing_of g record { number = k })) c;
  begin = λ q. landed_at graphs (in_graph graphs q (λ g. Some g.first)) record { procedure = q; node = record { number = 0 }; temporaries = λ t. 0 };
}
