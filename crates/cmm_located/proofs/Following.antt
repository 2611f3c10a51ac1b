-- Steps of the machine over graphs are paths of the located machine.
use Rattle.std.proofs.Common.{◌≡◌, ◌⊎◌, inl, inr, ℕ, ◌+◌, ◌≤◌, Bool, true, false, List, Some, None, arith, refl, sym, ap, ◌∙◌, subst}
use Rattle.cmm_simulation.specs.Machine.{Machine}
use Rattle.cmm_simulation.specs.Observing.{Passes}
use Rattle.cmm_simulation.specs.Seen.{Seen, IsWithin, Event}
use Rattle.cmm_simulation.specs.Simulation.{Leads}
use Rattle.cmm_simulation.proofs.Paths.{one_step, joined}
use Rattle.cmm_simulation.proofs.Prefixes.{within_refl}
use Rattle.cmm_program.specs.declared.procedure.Target.TheVariants as target
use Rattle.cmm_program.specs.declared.procedure.Target.{Target}
use Rattle.cmm_program.specs.Acts.{Fail}
use Rattle.cmm_program.specs.Control.{State}
use Rattle.cmm_program.specs.Errors.{EndOfBody}
use Rattle.cmm_program.specs.State.{Setting, Store, Running, Wrong}
use Rattle.cmm_machine_laws.specs.Observed.{Call, Ending, event_at, machine_of, store_seen}
use Rattle.cmm_graph.specs.declared.number.NodeId.{NodeId}
use Rattle.cmm_graph.specs.declared.operand.Destination.TheVariants as destination
use Rattle.cmm_graph.specs.declared.node.HostCall.TheVariants.{PutByte, GetByte}
use Rattle.cmm_graph.specs.declared.node.NodeKind.{NodeKind}
use Rattle.cmm_graph.specs.declared.node.NodeKind.TheVariants as kind
use Rattle.cmm_graph.specs.Acting.{act_of}
use Rattle.cmm_graph.specs.GraphControl as graph
use Rattle.cmm_graph.specs.GraphControl.{Position, graph_control, kind_at}
use Rattle.cmm_located.specs.Answering.{shown}
use Rattle.cmm_located.specs.Compiled.{Compiled, Located}
use Rattle.cmm_located.specs.LocatedMachine.{located_machine, located_step, tokens_at}
use Rattle.cmm_located.specs.Nodes.{keeping}
use Rattle.cmm_located.specs.Relation.{Liveness, Related}
use Rattle.cmm_located.specs.Steps.{IsFollowed}

within_same : {Line : Type 0} (a b : Seen Line) → a ≡ b → IsWithin a b
within_same a b is = rw is (within_refl b)

-- a node stands at the same event over locations as over a graph
pub asks_alike : (s : Setting) (c : Compiled) (store other : Store) (p : Position) (at : Located) (node : NodeKind) →
    event_at s Running other (act_of (keeping s c at) node) ≡ event_at s Running store (act_of (graph.keeping p) node)
asks_alike s c store other p at (kind.Entry formals next) = refl
asks_alike s c store other p at (kind.CopyIn to next) = refl
asks_alike s c store other p at (kind.Assign (destination.Target (target.Variable n width)) value next) = refl
asks_alike s c store other p at (kind.Assign (destination.Target (target.Register n width)) value next) = refl
asks_alike s c store other p at (kind.Assign (destination.Temporary t) value next) = refl
asks_alike s c store other p at (kind.Store width aligned address value next) = refl
asks_alike s c store other p at (kind.Branch test then_ otherwise) = refl
asks_alike s c store other p at (kind.Switch value arms otherwise) = refl
asks_alike s c store other p at (kind.Call site callee arguments exits) = refl
asks_alike s c store other p at (kind.Yield site values exits) = refl
asks_alike s c store other p at (kind.Jump callee arguments) = refl
asks_alike s c store other p at (kind.Cut to arguments own) = refl
asks_alike s c store other p at (kind.Return exit alternates results) = refl
asks_alike s c store other p at (kind.Host (PutByte value) next) = refl
asks_alike s c store other p at (kind.Host (GetByte to) next) = refl
asks_alike s c store other p at (kind.Goto next) = refl
asks_alike s c store other p at kind.Stop = refl

-- a state at a CopyIn stands at no event
pub asks_none_at_copy : (s : Setting) (c : Compiled) (at : Located) (to : List Target) (next : NodeId) → kind_at c.graphs at.procedure at.node ≡ kind.CopyIn to next →
    at.store.status ≡ Running → (located_machine s c).asks at ≡ None
asks_none_at_copy s c at to next is runs =
    ap (λ node. event_at s at.store.status (shown s c at) (act_of (keeping s c at) node)) is
    ∙ ap (λ status. event_at s status (shown s c at) (Fail EndOfBody)) runs

abbrev pub wrong_in : Store → Bool
wrong_in store = elim store.status [ Wrong error ↦ true | _ ↦ false ]

module _ (s : Setting) (c : Compiled) (live : Liveness) where
  abbrev pub over_graphs : Machine (State Position) ℕ Call Ending
  over_graphs = machine_of (graph_control c.graphs) s

  abbrev pub over_places : Machine Located ℕ Call Ending
  over_places = located_machine s c

  seen_alike : (st : State Position) (at : Located) → Related s c live st at → store_seen at.store ≡ store_seen st.store
  seen_alike st at related = ap store_seen related.store

  wrong_alike : (st : State Position) (at : Located) → Related s c live st at → wrong_in at.store ≡ wrong_in st.store
  wrong_alike st at related = ap (λ (store : Store). elim store.status as (λ _. Bool) [ Wrong error ↦ true | _ ↦ false ]) related.store

  -- a state whose step is related to a step of the machine over graphs is passed, where it stands at no other event
  pub passing : (st : State Position) (at : Located) → Related s c live (over_graphs.step st) (located_step s c at) →
      ((event : Event Call Ending) → over_places.asks at ≡ Some event → over_graphs.asks st ≡ Some event) → store_seen at.store ≡ store_seen st.store →
      Passes over_graphs over_places st at
  passing st at related asks same = record {
    seen = within_same _ _ (seen_alike (over_graphs.step st) (located_step s c at) related);
    asks = λ event is. (asks event is, sym same);
    right = λ right. wrong_alike (over_graphs.step st) (located_step s c at) related ∙ right;
  }

  -- one step over locations
  pub in_one : (cost : ℕ) (st : State Position) (at : Located) →
      (over_graphs.wrong (over_graphs.step st) ≡ false → Related s c live (over_graphs.step st) (located_step s c at)) →
      ((event : Event Call Ending) → over_places.asks at ≡ Some event → over_graphs.asks st ≡ Some event) → store_seen at.store ≡ store_seen st.store →
      tokens_at s c at ≤ cost → IsFollowed s c live cost st at
  in_one cost st at related asks same within right = one_step (passing st at (related right) asks same) (related right) within

  -- Two steps over locations do one step of the machine over graphs: the first leads to a node that no state of a graph stands at, shows
  -- nothing, and the second comes to what the step comes to.
  pub record Moves (most : ℕ) (before after : State Position) (here : Located) : Type 0 where
    pub first : Located
    pub goes : here ≡ first
    pub running : first.store.status ≡ Running
    pub silent : store_seen first.store ≡ store_seen before.store
    pub shows : store_seen (located_step s c first).store ≡ store_seen before.store
    pub asks : over_places.asks first ≡ None
    pub related : Related s c live after (located_step s c first)
    pub within : tokens_at s c first ≤ most

  -- by moves from any state that shows what the step shows
  pub in_two_from : (cost most : ℕ) (st before : State Position) (at : Located) →
      (over_graphs.wrong (over_graphs.step st) ≡ false → Moves most before (over_graphs.step st) (located_step s c at)) →
      ((event : Event Call Ending) → over_places.asks at ≡ Some event → over_graphs.asks st ≡ Some event) → store_seen at.store ≡ store_seen st.store →
      tokens_at s c at ≤ cost → IsFollowed s c live (cost + most) st at
  in_two_from cost most st before at moves asks same within right =
      let m = moves right in
      let shown : store_seen before.store ≡ store_seen (over_graphs.step st).store = sym m.shows ∙ seen_alike (over_graphs.step st) (located_step s c m.first) m.related in
      let first_step : Leads over_places (tokens_at s c) (Passes over_graphs over_places st) (λ u. u ≡ m.first) 1 cost at =
      one_step
      (record {
        seen = within_same _ _ (ap (λ (x : Located). store_seen x.store) m.goes ∙ (m.silent ∙ shown));
        asks = λ event is. (asks event is, sym same);
        right = λ _. ap (λ (x : Located). elim x.store.status as (λ _. Bool) [ Wrong error ↦ true | _ ↦ false ]) m.goes
            ∙ ap (λ status. elim status as (λ _. Bool) [ Wrong error ↦ true | _ ↦ false ]) m.running;
      }) m.goes within in
      let second : Leads over_places (tokens_at s c) (Passes over_graphs over_places st) (Related s c live (over_graphs.step st)) 1 most m.first =
      one_step
      (record {
        seen = within_same _ _ (seen_alike (over_graphs.step st) (located_step s c m.first) m.related);
        asks = λ event is. absurd (no_event event (sym m.asks ∙ is));
        right = λ right. wrong_alike (over_graphs.step st) (located_step s c m.first) m.related ∙ right;
      }) m.related m.within in
      joined {n = 1} first_step
      (λ u is. subst (λ v. Leads over_places (tokens_at s c) (Passes over_graphs over_places st) (Related s c live (over_graphs.step st)) 1 most v) (sym is) second)
      (omega arith) (omega arith)
    where
      no_event : (event : Event Call Ending) → None ≡ Some event → ⊥
      no_event event is = absurd (cc)

  pub in_two : (cost most : ℕ) (st : State Position) (at : Located) →
      (over_graphs.wrong (over_graphs.step st) ≡ false → Moves most st (over_graphs.step st) (located_step s c at)) →
      ((event : Event Call Ending) → over_places.asks at ≡ Some event → over_graphs.asks st ≡ Some event) → store_seen at.store ≡ store_seen st.store →
      tokens_at s c at ≤ cost → IsFollowed s c live (cost + most) st at
  in_two cost most st at moves asks same within right = in_two_from cost most st st at moves asks same within right

  -- one step or two over locations
  pub in_either : (cost most : ℕ) (st : State Position) (at : Located) →
      (over_graphs.wrong (over_graphs.step st) ≡ false →
      Related s c live (over_graphs.step st) (located_step s c at) ⊎ Moves most st (over_graphs.step st) (located_step s c at)) →
      ((event : Event Call Ending) → over_places.asks at ≡ Some event → over_graphs.asks st ≡ Some event) → store_seen at.store ≡ store_seen st.store →
      tokens_at s c at ≤ cost → IsFollowed s c live (cost + most) st at
  in_either cost most st at comes asks same within right = elim (comes right) [
    | inl related ↦ in_one (cost + most) st at (λ _. related) asks same (omega arith) right
    | inr moves ↦ in_two cost most st at (λ _. moves) asks same within right
  ]
