-- Which state of the located machine stands for a state of the machine over graphs: stores are the same but for the values of
-- activations, which stand in places.
use Rattle.std.specs.Prelude.{◌≡◌, ℕ, ◌-◌, nat_lt, Bool, true, false, List, [], ◌∷◌, map, length, slice_get, slice_index_or, Option, Some, None}
use Rattle.cmm_program.specs.Control.{State}
use Rattle.cmm_program.specs.State.{Setting, Activation, Status, Running, Waiting, Ended, Wrong, Stopped, stack_top}
use Rattle.cmm_graph.specs.declared.number.NodeId.{NodeId}
use Rattle.cmm_graph.specs.declared.graph.Graph.{Graph}
use Rattle.cmm_graph.specs.GraphControl.{Position, kind_here}
use Rattle.cmm_live.specs.Sites.{site_of}
use Rattle.cmm_chain.specs.Chain.{Suspension, IsChain}
use Rattle.cmm_chain.specs.Running.{IsFramed, HasValues}
use Rattle.cmm_located.specs.Compiled.{Compiled, Located, bare}

-- which locals are live before a node, by the numbers of the procedure, the node and the local
abbrev pub Liveness : Type 0
Liveness = ℕ → NodeId → ℕ → Bool

-- ---- the values of locals

-- how many variables a procedure has, whose numbers come before those of temporaries
abbrev pub variable_count : List Graph → ℕ → ℕ
variable_count graphs q = elim (slice_get graphs q) [ Some g ↦ g.variables | None ↦ 0 ]

-- what a local of an activation holds, by its number: a variable in the store, and a temporary in the control
abbrev pub value_at : List Graph → Activation → Position → ℕ → ℕ
value_at graphs a p v = elim (nat_lt v (variable_count graphs a.procedure)) [
  | true ↦ slice_index_or a.variables v 0
  | false ↦ p.temporaries (record { number = v - variable_count graphs a.procedure })
]

abbrev pub site_number : Option ℕ → ℕ
site_number (Some n) = n
site_number None = 0

abbrev pub suspension_of : List Graph → Activation → Position → Suspension
suspension_of graphs a p = record { procedure = a.procedure; site = site_number a.site; values = value_at graphs a p }

-- activations with their controls
abbrev pub suspensions : List Graph → List Activation → List Position → List Suspension
suspensions graphs [] ps = []
suspensions graphs (a ∷ older) [] = []
suspensions graphs (a ∷ older) (p ∷ ps) = suspension_of graphs a p ∷ suspensions graphs older ps

-- ---- activations

-- one that waits stands at the node of its site
pub record Waits (graphs : List Graph) (a : Activation) (p : Position) : Type 0 where
  pub procedure : p.procedure ≡ a.procedure
  pub variables : length a.variables ≡ variable_count graphs a.procedure
  pub site : ℕ
  pub is_site : a.site ≡ Some site
  pub stands : site_of (kind_here graphs p) ≡ Some (record { number = site })

abbrev pub AllWait : List Graph → List Activation → List Position → Type 0
AllWait graphs [] [] = Unit {0}
AllWait graphs (a ∷ older) (p ∷ ps) = Waits graphs a p × AllWait graphs older ps
AllWait graphs _ _ = ⊥

-- The youngest runs at the same node. What is live before the node stands in its place, and the frame lies below the chain of the
-- older ones, which wait.
pub record Runs (s : Setting) (c : Compiled) (live : Liveness) (a : Activation) (older : List Activation) (p : Position) (ps : List Position) (at : Located) : Type 0 where
  pub ghosts : at.store.activations ≡ map bare (a ∷ older)
  pub procedure : p.procedure ≡ a.procedure
  pub same : at.procedure ≡ a.procedure
  pub node : at.node ≡ p.node
  pub exists : c.plan.is_procedure a.procedure ≡ true
  pub variables : length a.variables ≡ variable_count c.graphs a.procedure
  pub values : HasValues c.plan a.procedure at.holdings (live a.procedure p.node) (value_at c.graphs a p)
  pub framed : IsFramed c.plan (stack_top s) a.procedure (suspensions c.graphs older ps) at.holdings
  pub waits : AllWait c.graphs older ps

abbrev pub IsRunning : Setting → Compiled → Liveness → List Activation → List Position → Located → Type 0
IsRunning s c live (a ∷ older) (p ∷ ps) at = Runs s c live a older p ps at
IsRunning s c live _ _ at = ⊥

-- all wait, and the stack is the chain of them
pub record IsSuspendedAll (s : Setting) (c : Compiled) (activations : List Activation) (ps : List Position) (at : Located) : Type 0 where
  pub ghosts : at.store.activations ≡ map bare activations
  pub waits : AllWait c.graphs activations ps
  pub chain : IsChain c.plan (stack_top s) at.holdings.contents (suspensions c.graphs activations ps) at.holdings.point

-- a run that the client has stopped still has its stack; where a run is over otherwise nothing is required
abbrev pub IsStanding : Setting → Compiled → Liveness → Status → State Position → Located → Type 0
IsStanding s c live Running st at = IsRunning s c live st.store.activations st.controls at
IsStanding s c live (Waiting values) st at = IsSuspendedAll s c st.store.activations st.controls at
IsStanding s c live (Ended Stopped) st at = IsSuspendedAll s c st.store.activations st.controls at
IsStanding s c live (Ended outcome) st at = Unit {0}
IsStanding s c live (Wrong error) st at = Unit {0}

-- But for activations, stores are the same; at the stack limit a call has suspended its caller over locations, and not over a graph.
pub record Related (s : Setting) (c : Compiled) (live : Liveness) (st : State Position) (at : Located) : Type 0 where
  pub store : at.store ≡ record st.store { activations = at.store.activations }
  pub stands : IsStanding s c live st.store.status st at
