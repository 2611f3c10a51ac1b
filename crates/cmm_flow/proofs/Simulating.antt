-- Each step of the C-- machine is a path over the graphs.
use Rattle.std.proofs.Common.{◌≡◌, ℕ, ◌+◌, ◌≤◌, max, nat_le, Bool, true, false, IsTrue, All, Ok, Err, Option, Some, None, List, [], ◌∷◌, slice_get, refl, ap, sym, ◌∙◌, subst, arith}
use Rattle.std.proofs.lemmas.Bool.{and_parts}
use Rattle.std.proofs.lemmas.List.Elements.{All-head}
use Rattle.std.proofs.lemmas.Bool.Decides.{nat_tests}
use Rattle.cmm_simulation.proofs.Paths.{joined, one_step, weaker}
use Rattle.cmm_simulation.proofs.Prefixes.{within_refl}
use Rattle.cmm_simulation.proofs.Simulations.{stepwise}
use Rattle.cmm_simulation.specs.Machine.{Machine}
use Rattle.cmm_simulation.specs.Observing.{Level, Passes}
use Rattle.cmm_simulation.specs.Seen.{IsWithin, but_input}
use Rattle.cmm_simulation.specs.Simulation.{Leads, Simulates}
use Rattle.cmm_machine_laws.proofs.Shared.{machine_lasts}
use Rattle.cmm_machine_laws.specs.Fitting as Fitting
use Rattle.cmm_machine_laws.specs.Fitting.{AreActivations, ExpressionsFit, IsSetUp, IsSound, IsStatementOf, StatesAreSound}
use Rattle.cmm_program.specs.Memory.{IsByte}
use Rattle.cmm_machine_laws.specs.Observed.{Call, Ending, event_at, machine_of, store_seen}
use Rattle.cmm_program.proofs.Shared.{list_all_get}
use Rattle.cmm_program.specs.declared.procedure.Proc.{Proc}
use Rattle.cmm_program.specs.declared.statement.Statement.{Statement}
use Rattle.cmm_program.specs.Acts as act
use Rattle.cmm_program.specs.Acts.{Act, evaluated}
use Rattle.cmm_program.specs.Control.{Control, State, next_act, over, transferred}
use Rattle.cmm_program.specs.Errors.{Tried, and_then, with_some}
use Rattle.cmm_program.specs.Client.{answered}
use Rattle.cmm_program.specs.Exits.{Instead}
use Rattle.cmm_program.specs.Frames.{procedure_at}
use Rattle.cmm_program.specs.InRange.{is_form}
use Rattle.cmm_program.specs.Machine.{first_store, start_of, step_of}
use Rattle.cmm_program.specs.Orders.{Order}
use Rattle.cmm_program.specs.Performing.{Stay, Transfer, perform}
use Rattle.cmm_program.specs.State.{Activation, Ended, Outcome, Running, Setting, Status, Store, Waiting, Wrong}
use Rattle.cmm_program.specs.Todo.{Todo, act_of, rest_after, todo_control, todo_on}
use Rattle.cmm_program.specs.Tokens.{own_tokens}
use Rattle.cmm_program.specs.Writes.{reads_of}
use Rattle.cmm_graph.specs.declared.graph.Graph.{Graph}
use Rattle.cmm_graph.specs.declared.node.Node.{Node}
use Rattle.cmm_graph.specs.declared.number.NodeId.{NodeId}
use Rattle.cmm_graph.specs.Acting.{act_of as node_act}
use Rattle.cmm_graph.specs.GraphControl.{Position, graph_control, keeping}
use Rattle.cmm_graph.specs.GraphMachine.{tokens_at}
use Rattle.cmm_graph.specs.Paths.{node_of}
use Rattle.cmm_flow.specs.Flow.{HasTokens}
use Rattle.cmm_flow.specs.Laws.{AreFlows}
use Rattle.cmm_flow.specs.Relation.{AreCounted, AreGoing, AreRelated, AreWaiting, HasFlow, Related, SoundlyRelated, StandsFor, longest}
use Rattle.cmm_flow.proofs.Arriving.{counted_in, instead_related, kind_there, landed_by, stands_at, zipped_back}
use Rattle.cmm_flow.proofs.Client.{answered_related}
use Rattle.cmm_flow.proofs.Costs.{form_counted}
use Rattle.cmm_flow.proofs.Counting.{longest_is, rest_counted}
use Rattle.cmm_flow.proofs.Done.{Asks, Finally, IsDone, Passes as PassesTo, Quietly}
use Rattle.cmm_flow.proofs.Expressions.{bound}
use Rattle.cmm_flow.proofs.Fits.{IsFit}
use Rattle.cmm_flow.proofs.Forms.{form_cost, form_done}
use Rattle.cmm_flow.proofs.Orders.{Stand, going, going_below, order_related}
use Rattle.cmm_flow.proofs.Steps.{Quiet, Run, Youngest, at, cost_is, machine, place}
use Rattle.cmm_flow.proofs.Writes.{IsSameBelow, Leaves}

-- an act of a running state is no event but input
no_event : (s : Setting) (store : Store) (does : Act) → but_input (event_at s Running store does) ≡ None
no_event s store (act.GetByte target) = refl
no_event s store does = refl

-- what an order comes to
abbrev tried_by : {C : Type 0} → Control C → Setting → Store → Act → Tried Transfer
tried_by k s store does = and_then (evaluated (reads_of s store) does) (λ o. perform s o store)

-- a step of a running state
step_running : {C : Type 0} (k : Control C) (s : Setting) (store : Store) (cs : List C) (does : Act) → store.status ≡ Running → next_act k cs ≡ does →
    step_of k s (record { store = store; controls = cs }) ≡ elim (tried_by k s store does) [
      | Ok transfer ↦ transferred k s transfer cs
      | Err error ↦ record { store = over (Wrong error) store; controls = cs }
    ]
step_running k s store cs does running is = grind (arith, running, is)

module _ (are_sound : StatesAreSound) (fitting : ExpressionsFit) (r : Run) (set : IsSetUp r.setting) (flows : AreFlows r.setting r.graphs) where
  abbrev s : Setting
  s = r.setting

  abbrev A : Machine (State Todo) ℕ Call Ending
  A = machine_of (todo_control s.program) s

  abbrev Rel : State Todo → State Position → Type 0
  Rel = Related s.program r.graphs

  -- ---- level

  level_by : (a : State Todo) (b : State Position) (status : Status) → a.store ≡ b.store → a.store.status ≡ status → Level A (machine r) a b
  level_by a b Running same is = record {
    seen = ap store_seen same;
    asks =
        ap (λ status. but_input (event_at s status a.store (next_act (todo_control s.program) a.controls))) is ∙ no_event s a.store (next_act (todo_control s.program) a.controls)
        ∙ sym (ap (λ status. but_input (event_at s status b.store (next_act (graph_control r.graphs) b.controls))) (ap (λ (s : Store). s.status) (sym same) ∙ is)
        ∙ no_event s b.store (next_act (graph_control r.graphs) b.controls));
    wrong = ap (λ (store : Store). elim store.status as (λ _. Bool) [ Wrong error ↦ true | _ ↦ false ]) same;
  }
  level_by a b status same is = record {
    seen = ap store_seen same;
    asks = grind (arith, same, is);
    wrong = ap (λ (store : Store). elim store.status as (λ _. Bool) [ Wrong error ↦ true | _ ↦ false ]) same;
  }

  -- ---- costs

  -- no node has more tokens than the longest procedure
  dearest : (b : State Position) → r.cost b ≤ longest s.program + r.more
  dearest b = omega (arith, r.costs.resting b, by b.controls)
    where
      by_node : (g : Graph) (q : ℕ) → slice_get r.graphs q ≡ Some g → (n : NodeId) (o : Option Node) → node_of g n ≡ o →
          elim o as (λ _. ℕ) [ Some node ↦ node.tokens | None ↦ 0 ] ≤ longest s.program
      by_node g q is_graph n None is = omega arith
      by_node g q is_graph n (Some node) is =
          let found = zipped_back HasTokens s.program.procs r.graphs q g flows.tokens is_graph in
          let holds = list_all_get (λ (node : Node). nat_le node.tokens found.0.tokens) g.nodes n.number node found.2 is in
          let most : node.tokens ≤ found.0.tokens = grind (arith, nat_tests, holds) in
          omega (arith, most, longest_is s.program.procs q found.0 found.1)

      by_graph : (q : ℕ) (n : NodeId) (o : Option Graph) → slice_get r.graphs q ≡ o →
          elim (with_some o (λ g. node_of g n)) as (λ _. ℕ) [ Some node ↦ node.tokens | None ↦ 0 ] ≤ longest s.program
      by_graph q n None is = omega arith
      by_graph q n (Some g) is = by_node g q is n (node_of g n) refl

      by : (cs : List Position) → elim cs as (λ _. ℕ) [ [] ↦ 0 | c ∷ _ ↦ tokens_at r.graphs c ] ≤ longest s.program
      by [] = omega arith
      by (c ∷ cs) = by_graph c.procedure c.node (slice_get r.graphs c.procedure) refl

  -- ---- one step of both

  same_step : (a : State Todo) (b : State Position) → a.store ≡ b.store → A.asks a ≡ (machine r).asks b → Rel (A.step a) ((machine r).step b) →
      (most : ℕ) → r.cost b ≤ most → Leads (machine r) r.cost (Passes A (machine r) a) (Rel (A.step a)) 1 most b
  same_step a b same asks related most within = one_step
      (record {
        seen = subst (λ seen. IsWithin (store_seen ((machine r).step b).store) seen) (sym (ap store_seen related.store)) (within_refl (store_seen ((machine r).step b).store));
        asks = λ event is. (asks ∙ is, ap store_seen same);
        right = λ right. sym (ap (λ (store : Store). elim store.status as (λ _. Bool) [ Wrong error ↦ true | _ ↦ false ]) related.store) ∙ right;
      }) related within

  -- ---- a step of a running state

  module _ (store : Store) (running : store.status ≡ Running) (n : ℕ) (x : Statement) (rest : List Statement) (ts : List Todo) (c : Position) (cs : List Position)
      (a : Activation) (older : List Activation) (are : store.activations ≡ a ∷ older)
      (stands : StandsFor s.program r.graphs a (record { procedure = n; rest = x ∷ rest }) c) (waiting : AreWaiting s.program r.graphs older ts cs)
      (sound : IsSound s (record { store = store; controls = record { procedure = n; rest = x ∷ rest } ∷ ts })) where
    abbrev of : HasFlow s.program r.graphs n
    of = stands.one.of

    abbrev todo : Todo
    todo = record { procedure = n; rest = x ∷ rest }

    abbrev first : State Todo
    first = record { store = store; controls = todo ∷ ts }

    -- what it computes with fits, and its statement is in range
    is_youngest : procedure_at s a.procedure ≡ Some of.procedure
    is_youngest = ap (procedure_at s) stands.one.activation ∙ of.is_procedure

    fit : IsFit s of.procedure store
    fit = record { values = λ e w v typed is. fitting s first a older of.procedure e w v set sound are is_youngest typed is }

    in_range : IsTrue (is_form s.program of.procedure x.form)
    in_range =
        let activations = subst (λ as_. AreActivations s (Fitting.Youngest store.status) as_ (todo ∷ ts)) are sound.fits.activations in
        let statements = (activations.1.procedure of.procedure is_youngest).statements in
        let statement = All-head (IsStatementOf s.program of.procedure) x rest statements in
        (and_parts (is_form s.program of.procedure x.form) (nat_le (own_tokens of.procedure x.form) x.tokens) statement.0).0

    -- what it does
    does : next_act (todo_control s.program) (todo ∷ ts) ≡ act_of of.procedure x.form
    does = grind (arith, of.is_procedure)

    abbrev young : Youngest r
    young = record { procedure = n; graph = of.graph; is_graph = of.is_graph; older = cs }

    -- where the second machine stands
    position : c ≡ record { procedure = n; node = c.node; temporaries = c.temporaries }
    position = ap (λ n. record { procedure = n; node = c.node; temporaries = c.temporaries }) stands.one.position

    counted_form : form_cost of.procedure x.tokens x.form ≤ longest s.program
    counted_form =
        let parts = and_parts (nat_le (own_tokens of.procedure x.form) x.tokens) (nat_le x.tokens of.procedure.tokens) stands.counted.0.0 in
        let own : own_tokens of.procedure x.form ≤ x.tokens = grind (arith, nat_tests, parts.0) in
        let whole : x.tokens ≤ of.procedure.tokens = grind (arith, nat_tests, parts.1) in
        omega (arith, form_counted of.procedure x.tokens x.form own, whole, longest_is s.program.procs n of.procedure of.is_procedure)

    -- what is then to do, by a way
    after_way : (way : ℕ) → (todo_on s.program way todo).rest ≡ rest_after of.procedure way x.form rest
    after_way way = grind (arith, of.is_procedure)

    counted_after : (way : ℕ) → AreCounted of.procedure (rest_after of.procedure way x.form rest)
    counted_after way = rest_counted of.procedure way x.form rest (counted_in s r.graphs flows n of) stands.counted.0.1 stands.counted.1

    -- a state that is passed in silence
    quiet_passes : (u : State Position) → Quiet r (store_seen store) u → Passes A (machine r) first u
    quiet_passes u quiet = record {
      seen = subst (λ seen. IsWithin seen (A.seen (A.step first))) (sym quiet.shows) ((machine_lasts (todo_control s.program) s).grows first);
      asks = λ event is. grind (arith, quiet.asks, is);
      right = λ right. quiet.right;
    }

    abbrev StepLeads : State Position → Type 0
    StepLeads b = Leads (machine r) r.cost (Passes A (machine r) first) (Rel (A.step first)) 1 (longest s.program + r.more) b

    -- through the whole statement in silence
    quietly_leads : (way : ℕ) (after : Store) → A.step first ≡ transferred (todo_control s.program) s (Stay way after) (todo ∷ ts) → Leaves store after →
        PassesTo young of.procedure of.flow store c.temporaries c.node after (rest_after of.procedure way x.form rest) (form_cost of.procedure x.tokens x.form) →
        StepLeads (at young store c.temporaries c.node)
    quietly_leads way after steps leaves passes =
        let there = at young after passes.then_ passes.to in
        let related =
        going flows (transferred (todo_control s.program) s (Stay way after) (todo ∷ ts)) there after.activations refl (leaves.status ∙ running) refl
        (going_below flows after.activations a older (todo_on s.program way todo) ts (place young passes.then_ passes.to) cs
        (subst (λ as_. IsSameBelow as_ after.activations) are leaves.activations)
        (λ b same. stands_at s r.graphs flows b (todo_on s.program way todo) (place young passes.then_ passes.to) (rest_after of.procedure way x.form rest) passes.to
        (record { of = of; activation = same ∙ stands.one.activation; position = refl }) (after_way way) refl passes.code (counted_after way))
        waiting) in
        weaker passes.path quiet_passes (λ v is. subst (Rel (A.step first)) (sym is) (subst (λ st. Rel st there) (sym steps) related)) (omega arith)
        (λ n within. omega (arith, within, counted_form))

    -- to the node that does the order
    finally_leads : (o : Order) (transfer : Transfer) → perform s o store ≡ Ok transfer → A.step first ≡ transferred (todo_control s.program) s transfer (todo ∷ ts) →
        rest_after of.procedure 0 x.form rest ≡ rest →
        Asks young of.procedure of.flow store c.temporaries c.node x.form rest o (form_cost of.procedure x.tokens x.form) →
        StepLeads (at young store c.temporaries c.node)
    finally_leads o transfer performs steps follows asks =
        let here = place young asks.then_ asks.to in
        let last = at young store asks.then_ asks.to in
        let kind = kind_there s r.graphs flows n of asks.to asks.tokens asks.kind asks.node in
        let next : next_act (graph_control r.graphs) (here ∷ cs) ≡ node_act (keeping here) asks.kind = ap (node_act (keeping here)) kind in
        let second =
        step_running (graph_control r.graphs) s store (here ∷ cs) (node_act (keeping here) asks.kind) running next
        ∙ ap (λ tried. elim tried as (λ _. State Position) [
          | Ok transfer ↦ transferred (graph_control r.graphs) s transfer (here ∷ cs)
          | Err error ↦ record { store = over (Wrong error) store; controls = here ∷ cs }
        ]) (ap (λ t. and_then t (λ o. perform s o store)) asks.same ∙ performs) in
        let stand : Stand r flows = record {
          procedure = n;
          of = of;
          statement = x;
          rest = rest;
          node = asks.to;
          temporaries = asks.then_;
          todos = ts;
          positions = cs;
          activation = a;
          older = older;
          same = stands.one.activation;
          waiting = waiting;
          counted = stands.counted.1;
        } in
        let related = order_related stand store running are o asks.kind kind asks.next follows transfer performs in
        let both = subst (λ u. Rel (A.step first) u) (sym second) (subst (λ st. Rel st (transferred (graph_control r.graphs) s transfer (here ∷ cs))) (sym steps) related) in
        let events : A.asks first ≡ (machine r).asks last =
        ap (λ status. event_at s status store (next_act (todo_control s.program) (todo ∷ ts))) running ∙ ap (event_at s Running store) does ∙ sym asks.event
        ∙ ap (event_at s Running store) (sym next) ∙ ap (λ status. event_at s status store (next_act (graph_control r.graphs) (here ∷ cs))) (sym running) in
        let end = same_step first last refl events both (max 1 asks.tokens + r.more) (cost_is young store asks.then_ asks.to asks.tokens asks.kind running asks.node) in
        joined {Q = λ v. v ≡ last} {l = 0} {m = asks.before} (weaker asks.path quiet_passes (λ v is. is) (omega arith) (λ n within. within))
        (λ v is. subst (λ v. Leads (machine r) r.cost (Passes A (machine r) first) (Rel (A.step first)) 1 (max 1 asks.tokens + r.more) v) (sym is) end) (omega arith)
        (omega (arith, asks.within, counted_form))

    -- by what the statement comes to
    done_leads : (o : Order) (transfer : Transfer) → perform s o store ≡ Ok transfer → A.step first ≡ transferred (todo_control s.program) s transfer (todo ∷ ts) →
        IsDone young of.procedure of.flow store c.temporaries c.node x.form rest o (form_cost of.procedure x.tokens x.form) → StepLeads (at young store c.temporaries c.node)
    done_leads o transfer performs steps (Quietly way after is leaves passes) =
        let same : transfer ≡ Stay way after = grind (arith, performs, is) in
        quietly_leads way after (steps ∙ ap (λ transfer. transferred (todo_control s.program) s transfer (todo ∷ ts)) same) leaves passes
    done_leads o transfer performs steps (Finally follows asks) = finally_leads o transfer performs steps follows asks

    running_leads : A.wrong (A.step first) ≡ false → StepLeads (record { store = store; controls = c ∷ cs })
    running_leads right =
        subst (λ c. StepLeads (record { store = store; controls = c ∷ cs })) (sym position)
        (by (tried_by (todo_control s.program) s store (act_of of.procedure x.form)) refl)
      where
        steps : A.step first ≡ elim (tried_by (todo_control s.program) s store (act_of of.procedure x.form)) [
          | Ok transfer ↦ transferred (todo_control s.program) s transfer (todo ∷ ts)
          | Err error ↦ record { store = over (Wrong error) store; controls = todo ∷ ts }
        ]
        steps = step_running (todo_control s.program) s store (todo ∷ ts) (act_of of.procedure x.form) running does

        by : (tried : Tried Transfer) → tried_by (todo_control s.program) s store (act_of of.procedure x.form) ≡ tried → StepLeads (at young store c.temporaries c.node)
        by (Ok transfer) is =
            let o = bound (evaluated (reads_of s store) (act_of of.procedure x.form)) (λ o. perform s o store) transfer is in
            let step = steps ∙ ap (λ tried. elim tried as (λ _. State Todo) [
              | Ok transfer ↦ transferred (todo_control s.program) s transfer (todo ∷ ts)
              | Err error ↦ record { store = over (Wrong error) store; controls = todo ∷ ts }
            ]) is in
            done_leads o.0 transfer o.2 step
            (form_done young of.procedure of.flow store running fit x.tokens x.form rest c.temporaries c.node stands.code.0 o.0 in_range stands.code.1 stands.code.2 o.1 (transfer, o.2))
        by (Err error) is = grind (arith, steps, is, right)

  -- ---- any step

  -- statements to do that are none go wrong
  nothing_left : (store : Store) (n : ℕ) (ts : List Todo) → store.status ≡ Running →
      A.wrong (A.step (record { store = store; controls = record { procedure = n; rest = [] } ∷ ts })) ≡ true
  nothing_left store n ts running = grind (arith, running)

  going_leads : (store : Store) → store.status ≡ Running → (as_ : List Activation) → store.activations ≡ as_ → (ts : List Todo) (cs : List Position) →
      AreGoing s.program r.graphs as_ ts cs → let a : State Todo = record { store = store; controls = ts } in IsSound s a → A.wrong (A.step a) ≡ false →
      Leads (machine r) r.cost (Passes A (machine r) a) (Rel (A.step a)) 1 (longest s.program + r.more) (record { store = store; controls = cs })
  going_leads store running (a ∷ older) are (t ∷ ts) (c ∷ cs) goes sound right = by t.procedure t.rest goes.0 sound right
    where
      by : (n : ℕ) (rest : List Statement) → StandsFor s.program r.graphs a (record { procedure = n; rest = rest }) c →
          let a : State Todo = record { store = store; controls = record { procedure = n; rest = rest } ∷ ts } in IsSound s a → A.wrong (A.step a) ≡ false →
          Leads (machine r) r.cost (Passes A (machine r) a) (Rel (A.step a)) 1 (longest s.program + r.more) (record { store = store; controls = c ∷ cs })
      by n [] stands sound right = grind (arith, nothing_left store n ts running, right)
      by n (x ∷ rest) stands sound right = running_leads store running n x rest ts c cs a older are stands goes.1 sound right
  going_leads store running [] are ts cs goes sound right = elim goes [ ]
  going_leads store running (a ∷ older) are [] cs goes sound right = elim goes [ ]
  going_leads store running (a ∷ older) are (t ∷ ts) [] goes sound right = elim goes [ ]

  waiting_leads : (values : List ℕ) (store : Store) → store.status ≡ Waiting values → (ts : List Todo) (cs : List Position) →
      AreWaiting s.program r.graphs store.activations ts cs → let a : State Todo = record { store = store; controls = ts } in
      Leads (machine r) r.cost (Passes A (machine r) a) (Rel (A.step a)) 1 (longest s.program + r.more) (record { store = store; controls = cs })
  waiting_leads values store is ts cs waiting =
      let a : State Todo = record { store = store; controls = ts } in
      let b : State Position = record { store = store; controls = cs } in
      let first : transferred (todo_control s.program) s (answered s values store) ts ≡ A.step a = grind (arith, is) in
      let second : transferred (graph_control r.graphs) s (answered s values store) cs ≡ (machine r).step b = grind (arith, is) in
      let related = answered_related s r.graphs flows ts cs values store waiting in
      same_step a b refl (grind (arith, is)) (subst (λ st. Rel st ((machine r).step b)) first (subst (λ u. Rel (transferred (todo_control s.program) s (answered s values store) ts) u) second related))
      (longest s.program + r.more) (dearest b)

  over_leads : (outcome : Outcome) (a : State Todo) (b : State Position) → a.store.status ≡ Ended outcome → Rel a b →
      Leads (machine r) r.cost (Passes A (machine r) a) (Rel (A.step a)) 1 (longest s.program + r.more) b
  over_leads outcome a b is related =
      let first : a ≡ A.step a = grind (arith, is) in
      let second : b ≡ (machine r).step b = grind (arith, is, related.store) in
      same_step a b related.store (grind (arith, is, related.store)) (subst (λ st. Rel st ((machine r).step b)) first (subst (λ u. Rel a u) second related))
      (longest s.program + r.more) (dearest b)

  related_leads : (a : State Todo) (b : State Position) → Rel a b → IsSound s a → A.wrong (A.step a) ≡ false →
      Leads (machine r) r.cost (Passes A (machine r) a) (Rel (A.step a)) 1 (longest s.program + r.more) b
  related_leads a b related sound right = by a.store.status refl related.controls
    where
      here : record { store = a.store; controls = b.controls } ≡ b
      here = ap (λ store. record { store = store; controls = b.controls }) related.store

      by : (status : Status) → a.store.status ≡ status → AreRelated s.program r.graphs status a.store.activations a.controls b.controls →
          Leads (machine r) r.cost (Passes A (machine r) a) (Rel (A.step a)) 1 (longest s.program + r.more) b
      by Running is controls =
          subst (Leads (machine r) r.cost (Passes A (machine r) a) (Rel (A.step a)) 1 (longest s.program + r.more)) here
          (going_leads a.store is a.store.activations refl a.controls b.controls controls sound right)
      by (Waiting values) is controls =
          subst (Leads (machine r) r.cost (Passes A (machine r) a) (Rel (A.step a)) 1 (longest s.program + r.more)) here (waiting_leads values a.store is a.controls b.controls controls)
      by (Ended outcome) is controls = over_leads outcome a b is related
      by (Wrong error) is controls = grind (arith, is, right)

  -- the law, at any such costs
  pub run_simulates : Simulates A (λ _. longest s.program + r.more) (machine r) r.cost (SoundlyRelated s r.graphs)
  run_simulates =
      stepwise (λ a b both. level_by a b a.store.status both.related.store refl)
      (λ a b both right.
      weaker (related_leads a b both.related both.sound right) (λ u passes. passes) (λ v related. record { related = related; sound = are_sound.next s set a both.sound })
      (omega arith) (λ n within. within))

  -- both start related
  begins_related : (input : List ℕ) → Rel (start_of (todo_control s.program) s input) (start_of (graph_control r.graphs) s input)
  begins_related input = by (procedure_at s s.program.main) refl
    where
      by : (o : Option Proc) → procedure_at s s.program.main ≡ o → Rel (start_of (todo_control s.program) s input) (start_of (graph_control r.graphs) s input)
      by (Some q) is = instead_related s r.graphs flows s.program.main [] (first_store s input) q [] [] is tt
      by None is = landed_by s r.graphs flows (Instead s.program.main []) (first_store s input) [] [] (λ after lands. grind (arith, is, lands))

  pub starts_related : (input : List ℕ) → All IsByte input →
      SoundlyRelated s r.graphs (start_of (todo_control s.program) s input) (start_of (graph_control r.graphs) s input)
  starts_related input bytes = record { related = begins_related input; sound = are_sound.first s set input bytes }
