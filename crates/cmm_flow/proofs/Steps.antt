-- Steps of the graph machine that are passed in silence: where one leads, and that it shows nothing.
use Rattle.std.proofs.Common.{◌≡◌, ℕ, ◌+◌, ◌≤◌, max, List, ◌∷◌, true, false, is_some, slice_get, Ok, Some, None, refl, sym, ap, ◌∙◌, subst, arith}
use Rattle.cmm_simulation.proofs.Paths.{one_step, joined, weaker}
use Rattle.cmm_simulation.specs.Machine.{Machine}
use Rattle.cmm_simulation.specs.Seen.{Seen}
use Rattle.cmm_simulation.specs.Simulation.{Leads}
use Rattle.cmm_machine_laws.specs.Observed.{Call, Ending, event_at, machine_of, store_seen}
use Rattle.cmm_program.specs.Acts.{evaluated}
use Rattle.cmm_program.specs.Control.{State}
use Rattle.cmm_program.specs.Orders as order
use Rattle.cmm_program.specs.Orders.{Order}
use Rattle.cmm_program.specs.Performing.{Stay, perform}
use Rattle.cmm_program.specs.State.{Running, Setting, Store}
use Rattle.cmm_program.specs.Writes.{reads_of}
use Rattle.cmm_graph.specs.declared.graph.Graph.{Graph}
use Rattle.cmm_graph.specs.declared.node.NodeKind.{NodeKind}
use Rattle.cmm_graph.specs.declared.node.NodeKind.TheVariants.{Goto}
use Rattle.cmm_graph.specs.declared.number.NodeId.{NodeId}
use Rattle.cmm_graph.specs.declared.number.Temporary.{Temporary}
use Rattle.cmm_graph.specs.Acting.{act_of, led}
use Rattle.cmm_graph.specs.GraphControl.{Position, graph_control, keeping, kind_at, moved_to, temporaries_after}
use Rattle.cmm_graph.specs.GraphMachine.{graph_step, tokens_at}
use Rattle.cmm_flow.specs.Code.{IsNode}
use Rattle.cmm_flow.specs.Laws.{AreCosts}

-- a run over graphs, and what its steps cost
pub record Run : Type 0 where
  pub graphs : List Graph
  pub setting : Setting
  pub cost : State Position → ℕ
  pub more : ℕ
  pub costs : AreCosts setting graphs cost more

abbrev pub machine : Run → Machine (State Position) ℕ Call Ending
machine r = machine_of (graph_control r.graphs) r.setting

-- a state is passed in silence where the step from it shows no more than this, takes nothing and does not go wrong
pub record Quiet (r : Run) (shown : Seen ℕ) (u : State Position) : Type 0 where
  pub shows : (machine r).seen ((machine r).step u) ≡ shown
  pub asks : (machine r).asks u ≡ None
  pub right : (machine r).wrong ((machine r).step u) ≡ false

-- a path in silence to a state
abbrev pub Goes : Run → Seen ℕ → ℕ → ℕ → State Position → State Position → Type 0
Goes r shown least most t u = Leads (machine r) r.cost (Quiet r shown) (λ v. v ≡ u) least most t

-- the youngest activation of a run: the procedure whose graph it is in, and where the older ones stand
pub record Youngest (r : Run) : Type 0 where
  pub procedure : ℕ
  pub graph : Graph
  pub is_graph : slice_get r.graphs procedure ≡ Some graph
  pub older : List Position

module _ {r : Run} (y : Youngest r) where
  abbrev pub place : (Temporary → ℕ) → NodeId → Position
  place temporaries n = record { procedure = y.procedure; node = n; temporaries = temporaries }

  -- a state where it stands at a node
  abbrev pub at : Store → (Temporary → ℕ) → NodeId → State Position
  at store temporaries n = record { store = store; controls = place temporaries n ∷ y.older }

  -- what stands at a node that is there
  kind_is : (n : NodeId) (tokens : ℕ) (kind : NodeKind) → IsNode y.graph.nodes n tokens kind → kind_at r.graphs y.procedure n ≡ kind
  kind_is n tokens kind node = grind (arith, y.is_graph, node)

  tokens_are : (temporaries : Temporary → ℕ) (n : NodeId) (tokens : ℕ) (kind : NodeKind) → IsNode y.graph.nodes n tokens kind →
      tokens_at r.graphs (place temporaries n) ≡ tokens
  tokens_are temporaries n tokens kind node = grind (arith, y.is_graph, node)

  pub cost_is : (store : Store) (temporaries : Temporary → ℕ) (n : NodeId) (tokens : ℕ) (kind : NodeKind) → store.status ≡ Running →
      IsNode y.graph.nodes n tokens kind → r.cost (at store temporaries n) ≤ max 1 tokens + r.more
  cost_is store temporaries n tokens kind running node =
      subst (λ k. r.cost (at store temporaries n) ≤ max 1 k + r.more) (tokens_are temporaries n tokens kind node) (r.costs.running (at store temporaries n) running)

  leading_cost : (store : Store) (temporaries : Temporary → ℕ) (n : NodeId) (tokens : ℕ) (kind : NodeKind) → store.status ≡ Running →
      IsNode y.graph.nodes n tokens kind → is_some (led 0 kind) ≡ true → r.cost (at store temporaries n) ≤ max 1 tokens
  leading_cost store temporaries n tokens kind running node leads =
      subst (λ k. r.cost (at store temporaries n) ≤ max 1 k) (tokens_are temporaries n tokens kind node)
      (r.costs.leading (at store temporaries n) running (ap (λ kind. is_some (led 0 kind)) (kind_is n tokens kind node) ∙ leads))

  -- where a node leads by a way
  abbrev pub led_to : Store → (Temporary → ℕ) → NodeId → NodeKind → ℕ → State Position
  led_to after temporaries n kind way = record {
    store = after;
    controls = moved_to (led way kind) record (place temporaries n) { temporaries = temporaries_after way kind temporaries } ∷ y.older;
  }

  -- the step at a node whose order goes on in its activation
  step_is : (store after : Store) (temporaries : Temporary → ℕ) (n : NodeId) (tokens : ℕ) (kind : NodeKind) (order : Order) (way : ℕ) →
      store.status ≡ Running → IsNode y.graph.nodes n tokens kind →
      evaluated (reads_of r.setting store) (act_of (keeping (place temporaries n)) kind) ≡ Ok order →
      perform r.setting order store ≡ Ok (Stay way after) →
      graph_step r.graphs r.setting (at store temporaries n) ≡ led_to after temporaries n kind way
  step_is store after temporaries n tokens kind order way running node is performs =
      grind (arith, running, kind_is n tokens kind node, is, performs)

  -- it is passed in silence where it shows nothing more
  pub passes_one : (store after : Store) (temporaries : Temporary → ℕ) (n : NodeId) (tokens : ℕ) (kind : NodeKind) (order : Order) (way : ℕ) →
      store.status ≡ Running → IsNode y.graph.nodes n tokens kind →
      evaluated (reads_of r.setting store) (act_of (keeping (place temporaries n)) kind) ≡ Ok order →
      perform r.setting order store ≡ Ok (Stay way after) → after.status ≡ Running →
      event_at r.setting Running store (act_of (keeping (place temporaries n)) kind) ≡ None → is_some (led 0 kind) ≡ true →
      Goes r (store_seen after) 1 (max 1 tokens) (at store temporaries n) (led_to after temporaries n kind way)
  passes_one store after temporaries n tokens kind order way running node is performs runs silent leads =
      let steps = step_is store after temporaries n tokens kind order way running node is performs in
      one_step (record {
        shows = ap (λ u. (machine r).seen u) steps;
        asks = grind (arith, running, kind_is n tokens kind node, silent);
        right = grind (arith, steps, runs);
      }) steps (leading_cost store temporaries n tokens kind running node leads)

  -- a node that does nothing
  pub goto_goes : (store : Store) (temporaries : Temporary → ℕ) (n k : NodeId) → store.status ≡ Running → IsNode y.graph.nodes n 1 (Goto k) →
      Goes r (store_seen store) 1 1 (at store temporaries n) (at store temporaries k)
  goto_goes store temporaries n k running node = passes_one store store temporaries n 1 (Goto k) order.Nothing 0 running node refl refl running refl refl

-- one path and then another
pub and_goes : {r : Run} {shown : Seen ℕ} {l m n o least most : ℕ} {t u v : State Position} → Goes r shown l m t u → Goes r shown n o u v →
    least ≤ l + n → m + o ≤ most → Goes r shown least most t v
and_goes {r = r} {shown = shown} {n = n} {o = o} {v = v} first second enough within =
    joined first (λ w is. subst (λ w. Goes r shown n o w v) (sym is) second) enough within

-- the path that goes nowhere
pub stays_there : {r : Run} {shown : Seen ℕ} (most : ℕ) (t : State Position) → Goes r shown 0 most t t
stays_there most t = record { steps = 0; through = λ i less. absurd (omega arith); arrives = refl; enough = omega arith; within = omega arith }

-- the same with all that is spent
pub then_goes : {r : Run} {shown : Seen ℕ} {l m n o : ℕ} {t u v : State Position} → Goes r shown l m t u → Goes r shown n o u v →
    Goes r shown (l + n) (m + o) t v
then_goes first second = and_goes first second (omega arith) (omega arith)

-- of which less is required
pub at_most : {r : Run} {shown : Seen ℕ} {l m least most : ℕ} {t u : State Position} → Goes r shown l m t u → least ≤ l → m ≤ most → Goes r shown least most t u
at_most path enough within = weaker path (λ u p. p) (λ u q. q) enough (λ n le. omega arith)

-- a path shows what is seen where that is the same
pub shown_as : {r : Run} {a b : Seen ℕ} {least most : ℕ} {t u : State Position} → a ≡ b → Goes r a least most t u → Goes r b least most t u
shown_as {r = r} {least = least} {most = most} {t = t} {u = u} same path = subst (λ s. Goes r s least most t u) same path
