-- Graphs that stand for others are the same machine.
use Rattle.std.proofs.Common.{◌≡◌, ℕ, inl, inr, refl, ◌∙◌, ap, List, [], ◌∷◌, drop}
use Rattle.std.proofs.Math.Path.{fun_ext}
use Rattle.std.specs.Prelude.{slice_get, Option, Some, None, Ok, Err}
use Rattle.std.specs.List.{AllZip}
use Rattle.cmm_program.specs.Acts.{evaluated}
use Rattle.cmm_program.specs.Client.{answered}
use Rattle.cmm_program.specs.Control.{Control, State, arrived, landed, next_act, over, ran, transferred}
use Rattle.cmm_program.specs.Errors.{Tried, and_then, with_some}
use Rattle.cmm_program.specs.Exits.{Landing, Called, Instead, Back, Resumed, land}
use Rattle.cmm_program.specs.Machine.{first_store, step_of}
use Rattle.cmm_program.specs.Performing.{Transfer, Stay, Wait, Away, Over, perform}
use Rattle.cmm_program.specs.State.{Setting, Store, Status, Running, Waiting, Ended, Wrong, StackLimit}
use Rattle.cmm_program.specs.Values.{Value}
use Rattle.cmm_program.specs.Writes.{reads_of}
use Rattle.cmm_machine_laws.specs.Observed.{event_at, machine_of}
use Rattle.cmm_graph.specs.Acting.{act_of, led}
use Rattle.cmm_graph.specs.declared.graph.Graph.{Graph}
use Rattle.cmm_graph.specs.declared.node.Node.{Node}
use Rattle.cmm_graph.specs.declared.node.NodeKind.{NodeKind}
use Rattle.cmm_graph.specs.declared.node.NodeKind.TheVariants.{Stop}
use Rattle.cmm_graph.specs.declared.number.NodeId.{NodeId}
use Rattle.cmm_graph.specs.declared.number.Temporary.{Temporary}
use Rattle.cmm_graph.specs.declared.operand.Destination.{Destination}
use Rattle.cmm_graph.specs.declared.operand.Destination.TheVariants as destination
use Rattle.cmm_graph.specs.declared.operand.Rvalue.{Rvalue}
use Rattle.cmm_graph.specs.GraphControl.{Position, behind, graph_control, held_by, in_graph, keeping, kind_at, kind_here, landed_at, moved_to, normal_of, put_to, temporaries_after}
use Rattle.cmm_graph.specs.GraphMachine.{graph_start, tokens_at, tokens_of_youngest}
use Rattle.cmm_graph.specs.Paths.{landing_of, node_of}
use Rattle.cmm_graph.specs.Values.{rvalue_value}
use Rattle.cmm_fold.specs.Folding.{NumbersAreKnown}
use Rattle.cmm_fold.specs.Graphs.{GraphStandsFor, KindStandsFor, NodeStandsFor}
use Rattle.cmm_folded.specs.Laws.{FoldedGraphsDoTheSame}
use Rattle.cmm_folded.proofs.Nodes as Nodes
use Rattle.cmm_folded.proofs.Nodes.{IsBlind, MayStand, kind_same, stand_at}

-- ---- one node
module _ (old new : NodeKind) (stands : KindStandsFor old new) where
  same_led : (way : ℕ) → led way new ≡ led way old
  same_led way = kind_same (led way) (λ to value folded next. refl) old new stands

  same_temporaries : (way : ℕ) (t : Temporary → ℕ) → temporaries_after way new t ≡ temporaries_after way old t
  same_temporaries way t = kind_same (λ k. temporaries_after way k t) written old new stands
    where
      written : IsBlind (λ k. temporaries_after way k t)
      written (destination.Target target) value folded next = refl
      written (destination.Temporary u) value folded next = refl

  same_behind : (n : NodeId) → behind new n ≡ behind old n
  same_behind n = kind_same (λ k. behind k n) (λ to value folded next. refl) old new stands

  same_normal : normal_of new ≡ normal_of old
  same_normal = kind_same normal_of (λ to value folded next. refl) old new stands

  -- what it asks for of a store of a program
  same_order : (s : Setting) (store : Store) (c : Position) → evaluated (reads_of s store) (act_of (keeping c) new) ≡ evaluated (reads_of s store) (act_of (keeping c) old)
  same_order s store c = by stands
    where
      known : NumbersAreKnown (reads_of s store)
      known n w = refl

      put : (to : Destination) (v w : Value) → w (reads_of s store) ≡ v (reads_of s store) → evaluated (reads_of s store) (put_to to w) ≡ evaluated (reads_of s store) (put_to to v)
      put (destination.Target target) v w e = rw e refl
      put (destination.Temporary t) v w e = rw e refl

      by : KindStandsFor old new → evaluated (reads_of s store) (act_of (keeping c) new) ≡ evaluated (reads_of s store) (act_of (keeping c) old)
      by (inl e) = ap (λ k. evaluated (reads_of s store) (act_of (keeping c) k)) e
      by (inr a) =
          rw (a.was, a.is)
          (put a.to (rvalue_value (held_by c.temporaries) a.value) (rvalue_value (held_by c.temporaries) a.folded)
          (a.stands.value (held_by c.temporaries) (reads_of s store) known))

  same_event : (s : Setting) (status : Status) (store : Store) (c : Position) → event_at s status store (act_of (keeping c) new) ≡ event_at s status store (act_of (keeping c) old)
  same_event s status store c = kind_same (λ k. event_at s status store (act_of (keeping c) k)) (λ to value folded next. by to status value folded) old new stands
    where
      by : (to : Destination) (status : Status) (value folded : Rvalue) →
          event_at s status store (put_to to (rvalue_value (held_by c.temporaries) folded)) ≡ event_at s status store (put_to to (rvalue_value (held_by c.temporaries) value))
      by (destination.Target target) Running value folded = refl
      by (destination.Target target) (Waiting values) value folded = refl
      by (destination.Target target) (Ended outcome) value folded = refl
      by (destination.Target target) (Wrong error) value folded = refl
      by (destination.Temporary t) Running value folded = refl
      by (destination.Temporary t) (Waiting values) value folded = refl
      by (destination.Temporary t) (Ended outcome) value folded = refl
      by (destination.Temporary t) (Wrong error) value folded = refl

-- ---- the nodes of graphs
module _ (old new : List Graph) (all : AllZip GraphStandsFor old new) where
  node_stands : (q : ℕ) (n : NodeId) → MayStand NodeStandsFor (in_graph old q (λ g. node_of g n)) (in_graph new q (λ g. node_of g n))
  node_stands q n = by (slice_get old q) (slice_get new q) (stand_at GraphStandsFor old new all q)
    where
      by : (a b : Option Graph) → MayStand GraphStandsFor a b → MayStand NodeStandsFor (with_some a (λ g. node_of g n)) (with_some b (λ g. node_of g n))
      by None None is = tt
      by None (Some b) is = absurd is
      by (Some a) None is = absurd is
      by (Some a) (Some b) is = Nodes.node_stands a b is n

  pub kind_stands : (q : ℕ) (n : NodeId) → KindStandsFor (kind_at old q n) (kind_at new q n)
  kind_stands q n = by (in_graph old q (λ g. node_of g n)) (in_graph new q (λ g. node_of g n)) (node_stands q n)
    where
      by : (a b : Option Node) → MayStand NodeStandsFor a b → KindStandsFor (elim a [ Some node ↦ node.kind | None ↦ Stop ]) (elim b [ Some node ↦ node.kind | None ↦ Stop ])
      by None None is = inl refl
      by None (Some b) is = absurd is
      by (Some a) None is = absurd is
      by (Some a) (Some b) is = is.kind

  same_tokens : (c : Position) → tokens_at new c ≡ tokens_at old c
  same_tokens c = by (in_graph old c.procedure (λ g. node_of g c.node)) (in_graph new c.procedure (λ g. node_of g c.node)) (node_stands c.procedure c.node)
    where
      by : (a b : Option Node) → MayStand NodeStandsFor a b → ◌≡◌ {A = ℕ} (elim b [ Some node ↦ node.tokens | None ↦ 0 ]) (elim a [ Some node ↦ node.tokens | None ↦ 0 ])
      by None None is = refl
      by None (Some b) is = absurd is
      by (Some a) None is = absurd is
      by (Some a) (Some b) is = is.tokens

  same_landing : (q k : ℕ) → in_graph new q (λ g. landing_of g record { number = k }) ≡ in_graph old q (λ g. landing_of g record { number = k })
  same_landing q k = by (slice_get old q) (slice_get new q) (stand_at GraphStandsFor old new all q)
    where
      by : (a b : Option Graph) → MayStand GraphStandsFor a b → with_some b (λ g. landing_of g record { number = k }) ≡ with_some a (λ g. landing_of g record { number = k })
      by None None is = refl
      by None (Some b) is = absurd is
      by (Some a) None is = absurd is
      by (Some a) (Some b) is = rw is.continuations refl

  same_first : (q : ℕ) → in_graph new q (λ g. Some g.first) ≡ in_graph old q (λ g. Some g.first)
  same_first q = by (slice_get old q) (slice_get new q) (stand_at GraphStandsFor old new all q)
    where
      by : (a b : Option Graph) → MayStand GraphStandsFor a b → with_some b (λ g. Some g.first) ≡ with_some a (λ g. Some g.first)
      by None None is = refl
      by None (Some b) is = absurd is
      by (Some a) None is = absurd is
      by (Some a) (Some b) is = ap Some is.first

  same_landed : (to : Option NodeId) (c : Position) → landed_at new to c ≡ landed_at old to c
  same_landed None c = refl
  same_landed (Some n) c = ap (λ m. moved_to (Some m) c) (same_behind (kind_at old c.procedure n) (kind_at new c.procedure n) (kind_stands c.procedure n) n)

  -- ---- the control, but for its acts
  same_on : (graph_control new).on ≡ (graph_control old).on
  same_on = fun_ext (λ way. fun_ext (λ c.
      let stands = kind_stands c.procedure c.node in
      rw (same_led (kind_here old c) (kind_here new c) stands way, same_temporaries (kind_here old c) (kind_here new c) stands way c.temporaries) refl))

  same_back : (graph_control new).back ≡ (graph_control old).back
  same_back = fun_ext (λ c.
      same_landed (normal_of (kind_here new c)) c
      ∙ ap (λ to. landed_at old to c) (same_normal (kind_here old c) (kind_here new c) (kind_stands c.procedure c.node)))

  same_resume : (graph_control new).resume ≡ (graph_control old).resume
  same_resume = fun_ext (λ k. fun_ext (λ c.
      same_landed (in_graph new c.procedure (λ g. landing_of g record { number = k })) c ∙ ap (λ to. landed_at old to c) (same_landing c.procedure k)))

  abbrev entered : ℕ → Position
  entered q = record { procedure = q; node = record { number = 0 }; temporaries = λ t. 0 }

  same_begin : (graph_control new).begin ≡ (graph_control old).begin
  same_begin = fun_ext (λ q.
      same_landed (in_graph new q (λ g. Some g.first)) (entered q) ∙ ap (λ to. landed_at old to (entered q)) (same_first q))

-- ---- two controls that differ in their acts
module _ {C : Type 0} (k l : Control C) (on : l.on ≡ k.on) (later : l.later ≡ k.later) (back : l.back ≡ k.back) (resume : l.resume ≡ k.resume) (begin : l.begin ≡ k.begin)
    (s : Setting) where
  same_arrived : (landing : Landing) (cs : List C) → arrived l landing cs ≡ arrived k landing cs
  same_arrived (Called site n values) [] = rw begin refl
  same_arrived (Called site n values) (c ∷ cs) = rw (begin, later) refl
  same_arrived (Instead n values) cs = rw begin refl
  same_arrived (Back values) [] = refl
  same_arrived (Back values) (c ∷ cs) = rw back refl
  same_arrived (Resumed n values) [] = refl
  same_arrived (Resumed n values) (c ∷ cs) = rw resume refl

  pub control_landed : (landing : Landing) (store : Store) (cs : List C) → landed l s landing store cs ≡ landed k s landing store cs
  control_landed landing store cs = by (land s landing store) (arrived l landing cs) (arrived k landing cs) (same_arrived landing cs)
    where
      by : (r : Option Store) (xs ys : List C) → xs ≡ ys →
          ◌≡◌ {A = State C} (elim r [ Some after ↦ record { store = over Running after; controls = xs } | None ↦ record { store = over (Ended StackLimit) store; controls = cs } ])
          (elim r [ Some after ↦ record { store = over Running after; controls = ys } | None ↦ record { store = over (Ended StackLimit) store; controls = cs } ])
      by (Some after) xs ys e = rw e refl
      by None xs ys e = refl

  same_transferred : (t : Transfer) (cs : List C) → transferred l s t cs ≡ transferred k s t cs
  same_transferred (Stay way store) cs = rw on refl
  same_transferred (Wait store) cs = rw later refl
  same_transferred (Away gone store landing) cs = control_landed landing store (drop gone cs)
  same_transferred (Over gone store) cs = refl

  module _ (asks : (st : State C) → evaluated (reads_of s st.store) (next_act l st.controls) ≡ evaluated (reads_of s st.store) (next_act k st.controls)) where
    same_ran : (st : State C) → ran l s st ≡ ran k s st
    same_ran st = rw (asks st, ran) (by (and_then (evaluated (reads_of s st.store) (next_act k st.controls)) (λ order. perform s order st.store)))
      where
        by : (r : Tried Transfer) →
            ◌≡◌ {A = State C} (elim r [ Ok transfer ↦ transferred l s transfer st.controls | Err error ↦ record st { store = over (Wrong error) st.store } ])
            (elim r [ Ok transfer ↦ transferred k s transfer st.controls | Err error ↦ record st { store = over (Wrong error) st.store } ])
        by (Ok transfer) = same_transferred transfer st.controls
        by (Err error) = refl

    pub same_step : (st : State C) → step_of l s st ≡ step_of k s st
    same_step st = by st.store.status
      where
        by : (status : Status) →
            ◌≡◌ {A = State C} (elim status [ Running ↦ ran l s st | Waiting values ↦ transferred l s (answered s values st.store) st.controls | Ended outcome ↦ st | Wrong error ↦ st ])
            (elim status [ Running ↦ ran k s st | Waiting values ↦ transferred k s (answered s values st.store) st.controls | Ended outcome ↦ st | Wrong error ↦ st ])
        by Running = same_ran st
        by (Waiting values) = same_transferred (answered s values st.store) st.controls
        by (Ended outcome) = refl
        by (Wrong error) = refl

-- ---- the machines
module _ (s : Setting) (old new : List Graph) (all : AllZip GraphStandsFor old new) where
  evaluated_same : (st : State Position) → evaluated (reads_of s st.store) (next_act (graph_control new) st.controls) ≡ evaluated (reads_of s st.store) (next_act (graph_control old) st.controls)
  evaluated_same st = by st.controls
    where
      by : (cs : List Position) → evaluated (reads_of s st.store) (next_act (graph_control new) cs) ≡ evaluated (reads_of s st.store) (next_act (graph_control old) cs)
      by [] = refl
      by (c ∷ cs) = same_order (kind_here old c) (kind_here new c) (kind_stands old new all c.procedure c.node) s st.store c

  event_same : (st : State Position) → event_at s st.store.status st.store (next_act (graph_control new) st.controls) ≡ event_at s st.store.status st.store (next_act (graph_control old) st.controls)
  event_same st = by st.controls
    where
      by : (cs : List Position) → event_at s st.store.status st.store (next_act (graph_control new) cs) ≡ event_at s st.store.status st.store (next_act (graph_control old) cs)
      by [] = refl
      by (c ∷ cs) = same_event (kind_here old c) (kind_here new c) (kind_stands old new all c.procedure c.node) s st.store.status st.store c

  step_same : step_of (graph_control new) s ≡ step_of (graph_control old) s
  step_same =
      fun_ext (same_step (graph_control old) (graph_control new) (same_on old new all) refl (same_back old new all) (same_resume old new all) (same_begin old new all) s evaluated_same)

  machine_same : machine_of (graph_control new) s ≡ machine_of (graph_control old) s
  machine_same =
      ap (λ f. record (machine_of (graph_control new) s) { step = f }) step_same
      ∙ ap (λ g. record (machine_of (graph_control old) s) { asks = g }) (fun_ext event_same)

  tokens_same : tokens_of_youngest new ≡ tokens_of_youngest old
  tokens_same = fun_ext (λ st. by st.controls)
    where
      by : (cs : List Position) → ◌≡◌ {A = ℕ} (elim cs [ [] ↦ 0 | c ∷ _ ↦ tokens_at new c ]) (elim cs [ [] ↦ 0 | c ∷ _ ↦ tokens_at old c ])
      by [] = refl
      by (c ∷ cs) = same_tokens old new all c

  start_same : graph_start new s ≡ graph_start old s
  start_same =
      fun_ext (λ input. control_landed (graph_control old) (graph_control new) (same_on old new all) refl (same_back old new all) (same_resume old new all) (same_begin old new all) s (Instead s.program.main []) (first_store s input) [])

pub folded_graphs_do_the_same : FoldedGraphsDoTheSame
folded_graphs_do_the_same s old new all = record { machine = machine_same s old new all; costs = tokens_same s old new all; start = start_same s old new all }
