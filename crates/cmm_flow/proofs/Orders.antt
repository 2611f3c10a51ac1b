-- Both machines do the same order to the same store: they are related again, wherever control then goes.
use Rattle.std.proofs.Common.{◌%◌, ◌≡◌, ℕ, Ok, Some, List, [], ◌∷◌, ◌++◌, drop, refl, ap, sym, ◌∙◌, subst, arith}
use Rattle.cmm_machine_laws.proofs.Shared.{call_enters, cut_cuts, jump_enters, return_leaves}
use Rattle.cmm_machine_laws.specs.Transfers.{Cuts, CutsNot, CutsTo, Ends, Enters, EntersAt, EntersNot, Leaves as LeavesBy, LeavesNot, LeavesTo}
use Rattle.cmm_script.specs.Lines.{yield_line}
use Rattle.cmm_program.specs.declared.procedure.Proc.{Proc}
use Rattle.cmm_program.specs.declared.statement.Statement.{Statement}
use Rattle.cmm_program.specs.Control.{State, transferred}
use Rattle.cmm_program.specs.Errors.{Tried}
use Rattle.cmm_program.specs.Exits.{Called, Instead, numbers}
use Rattle.cmm_program.specs.Frames.{procedure_at, with_site, without}
use Rattle.cmm_program.specs.Orders as order
use Rattle.cmm_program.specs.Orders.{Order, Word}
use Rattle.cmm_program.specs.Performing.{Away, Over, Stay, Transfer, Wait, next_byte, one_taken, perform}
use Rattle.cmm_program.specs.State.{Activation, Done, Ended, Running, Setting, Store, Waiting}
use Rattle.cmm_program.specs.Todo.{Todo, todo_control, todo_on, rest_after}
use Rattle.cmm_program.specs.Writes.{assigned}
use Rattle.cmm_graph.specs.declared.graph.Graph.{Graph}
use Rattle.cmm_graph.specs.declared.node.NodeKind.{NodeKind}
use Rattle.cmm_graph.specs.declared.number.NodeId.{NodeId}
use Rattle.cmm_graph.specs.declared.number.Temporary.{Temporary}
use Rattle.cmm_graph.specs.Acting.{led}
use Rattle.cmm_graph.specs.GraphControl.{Position, graph_control, kind_here, moved_to, normal_of, temporaries_after}
use Rattle.cmm_flow.specs.Laws.{AreFlows}
use Rattle.cmm_flow.specs.Relation.{AreCounted, AreGoing, AreRelated, AreWaiting, HasFlow, IsCodeOf, Related, StandsFor, WaitsFor}
use Rattle.cmm_flow.proofs.Arriving.{AreLeft, called_related, continuation_related, exit_related, instead_related, left_drop, stands_at}
use Rattle.cmm_flow.proofs.Done.{ComesBack, GoesOn}
use Rattle.cmm_flow.proofs.Landing.{IsExit, found_is, return_is}
use Rattle.cmm_flow.proofs.Steps.{Run, Youngest}
use Rattle.cmm_flow.proofs.Writes.{IsSameBelow, assigned_leaves, same_below}

-- taking from the input leaves the activations
taken_leaves : (store : Store) → ((one_taken store).status ≡ store.status) × ((one_taken store).activations ≡ store.activations)
taken_leaves store = by store.input
  where
    by : (input : List ℕ) → let after : Store = elim input [ [] ↦ store | byte ∷ rest ↦ record store { input = rest; taken = store.taken ++ byte ∷ [] } ] in
        (after.status ≡ store.status) × (after.activations ≡ store.activations)
    by [] = (refl, refl)
    by (byte ∷ rest) = (refl, refl)

-- where an address is entered
entered_at : (s : Setting) (address : ℕ) (words : List Word) (next : ℕ → Transfer) (tried : Tried Transfer) (transfer : Transfer) →
    Enters s address words next tried → tried ≡ Ok transfer → (n : ℕ) × (p : Proc) × (procedure_at s n ≡ Some p) × (next n ≡ transfer)
entered_at s address words next tried transfer (EntersAt n p code is have) same = (n, p, is, grind (arith, same))
entered_at s address words next tried transfer (EntersNot error) same = grind (arith, same)

module _ {s : Setting} {graphs : List Graph} (flows : AreFlows s graphs) where
  -- the youngest activation goes on, once the store has changed but for older activations
  pub going : (a : State Todo) (b : State Position) (activations : List Activation) → a.store ≡ b.store → a.store.status ≡ Running → a.store.activations ≡ activations →
      AreGoing s.program graphs activations a.controls b.controls → Related s.program graphs a b
  going a b activations same running are goes = record {
    store = same;
    controls = subst (λ status. AreRelated s.program graphs status a.store.activations a.controls b.controls) (sym running)
        (subst (λ as_. AreGoing s.program graphs as_ a.controls b.controls) (sym are) goes);
  }

  -- the activations after a change below which all is the same
  pub going_below : (activations : List Activation) (a : Activation) (older : List Activation) (t : Todo) (ts : List Todo) (c : Position) (cs : List Position) →
      IsSameBelow (a ∷ older) activations → ((b : Activation) → b.procedure ≡ a.procedure → StandsFor s.program graphs b t c) →
      AreWaiting s.program graphs older ts cs → AreGoing s.program graphs activations (t ∷ ts) (c ∷ cs)
  going_below [] a older t ts c cs same stands waiting = elim same [ ]
  going_below (b ∷ others) a older t ts c cs same stands waiting =
      (stands b same.0, subst (λ as_. AreWaiting s.program graphs as_ ts cs) (sym same.1) waiting)

-- the state of both before the order: what the youngest activation has still to do, and at which node it stands
pub record Stand (r : Run) (flows : AreFlows r.setting r.graphs) : Type 0 where
  pub procedure : ℕ
  pub of : HasFlow r.setting.program r.graphs procedure
  pub statement : Statement
  pub rest : List Statement
  pub node : NodeId
  pub temporaries : Temporary → ℕ
  pub todos : List Todo
  pub positions : List Position
  pub activation : Activation
  pub older : List Activation
  pub same : activation.procedure ≡ procedure
  pub waiting : AreWaiting r.setting.program r.graphs older todos positions
  pub counted : AreCounted of.procedure rest

module _ {r : Run} {flows : AreFlows r.setting r.graphs} (p : Stand r flows) (store : Store) (running : store.status ≡ Running)
    (are : store.activations ≡ p.activation ∷ p.older) where
  abbrev s : Setting
  s = r.setting

  abbrev pub todo : Todo
  todo = record { procedure = p.procedure; rest = p.statement ∷ p.rest }

  abbrev pub position : Position
  position = record { procedure = p.procedure; node = p.node; temporaries = p.temporaries }

  abbrev pub young : Youngest r
  young = record { procedure = p.procedure; graph = p.of.graph; is_graph = p.of.is_graph; older = p.positions }

  abbrev EndsRelated : Transfer → Type 0
  EndsRelated transfer = Related s.program r.graphs (transferred (todo_control s.program) s transfer (todo ∷ p.todos))
      (transferred (graph_control r.graphs) s transfer (position ∷ p.positions))

  -- what is to do after the statement
  after_it : (rest_after p.of.procedure 0 p.statement.form p.rest ≡ p.rest) → (todo_on s.program 0 todo).rest ≡ p.rest
  after_it follows = grind (arith, p.of.is_procedure, follows)

  -- in silence to the next node
  stay_related : (kind : NodeKind) (after : Store) (k : NodeId) → kind_here r.graphs position ≡ kind → led 0 kind ≡ Some k → IsCodeOf s.program r.graphs p.of p.rest k →
      rest_after p.of.procedure 0 p.statement.form p.rest ≡ p.rest → after.status ≡ store.status → IsSameBelow store.activations after.activations →
      EndsRelated (Stay 0 after)
  stay_related kind after k is leads code follows status below =
      let there : moved_to (led 0 (kind_here r.graphs position)) (record position { temporaries = temporaries_after 0 (kind_here r.graphs position) p.temporaries })
      ≡ record position { node = k; temporaries = temporaries_after 0 (kind_here r.graphs position) p.temporaries } =
      ap (λ o. moved_to o (record position { temporaries = temporaries_after 0 (kind_here r.graphs position) p.temporaries })) (ap (led 0) is ∙ leads) in
      going flows (transferred (todo_control s.program) s (Stay 0 after) (todo ∷ p.todos)) (transferred (graph_control r.graphs) s (Stay 0 after) (position ∷ p.positions))
      after.activations refl (status ∙ running) refl
      (going_below flows after.activations p.activation p.older (todo_on s.program 0 todo) p.todos _ p.positions
      (subst (λ as_. IsSameBelow as_ after.activations) are below)
      (λ b same. stands_at s r.graphs flows b (todo_on s.program 0 todo) _ p.rest k
      (record { of = p.of; activation = same ∙ p.same; position = ap (λ (c : Position). c.procedure) there }) (after_it follows) (ap (λ (c : Position). c.node) there) code p.counted)
      p.waiting)

  -- suspended at the node of its site
  waits_here : (kind : NodeKind) (site : ℕ) → kind_here r.graphs position ≡ kind → rest_after p.of.procedure 0 p.statement.form p.rest ≡ p.rest →
      ComesBack young p.of.procedure p.of.flow store kind p.rest site →
      WaitsFor s.program r.graphs (record p.activation { site = Some site }) (todo_on s.program 0 todo) position
  waits_here kind site is follows back = record {
    one = record { of = p.of; activation = p.same; position = refl };
    site = site;
    is_site = refl;
    exits = back.0;
    stands = ap normal_of is ∙ back.2;
    behind = back.1;
    normal = back.3;
    code = subst (λ rest. IsCodeOf s.program r.graphs p.of rest back.1) (sym (after_it follows)) back.4;
    counted = subst (AreCounted p.of.procedure) (sym (after_it follows)) p.counted;
  }

  -- all that wait, with this one
  all_wait : (kind : NodeKind) (site : ℕ) → kind_here r.graphs position ≡ kind → rest_after p.of.procedure 0 p.statement.form p.rest ≡ p.rest →
      ComesBack young p.of.procedure p.of.flow store kind p.rest site →
      AreWaiting s.program r.graphs (with_site (Some site) store.activations) (todo_on s.program 0 todo ∷ p.todos) (position ∷ p.positions)
  all_wait kind site is follows back =
      subst (λ as_. AreWaiting s.program r.graphs (with_site (Some site) as_) (todo_on s.program 0 todo ∷ p.todos) (position ∷ p.positions)) (sym are)
      (waits_here kind site is follows back, p.waiting)

  older_are : (without 1 store).activations ≡ p.older
  older_are = ap (drop 1) are

  older_wait : AreWaiting s.program r.graphs (without 1 store).activations p.todos p.positions
  older_wait = subst (λ as_. AreWaiting s.program r.graphs as_ p.todos p.positions) (sym older_are) p.waiting

  return_related : (exit alternates : ℕ) (words : List Word) (tried : Tried Transfer) (transfer : Transfer) → LeavesBy s store exit alternates words p.older tried →
      tried ≡ Ok transfer → EndsRelated transfer
  return_related exit alternates words tried transfer (LeavesTo f e at same is have) done =
      let to : Away 1 (without 1 store) (e.landing (numbers words)) ≡ transfer = grind (arith, done) in
      subst EndsRelated to (exit_related s r.graphs flows e (numbers words) (without 1 store) p.todos p.positions
      (subst (λ as_. IsExit s as_ e) (sym older_are) (return_is s p.older f exit e at is)) older_wait)
  return_related exit alternates words tried transfer (Ends value none nil have is) done =
      let to : Over 1 (record (without 1 store) { status = Ended (Done value) }) ≡ transfer = grind (arith, done) in
      subst EndsRelated to (record { store = refl; controls = tt })
  return_related exit alternates words tried transfer (LeavesNot error) done = grind (arith, done)

  cut_related : (value : ℕ) (words : List Word) (own : List ℕ) (tried : Tried Transfer) (transfer : Transfer) → Cuts s store value words own tried →
      tried ≡ Ok transfer → EndsRelated transfer
  cut_related value words own tried transfer (CutsTo found e is is_exit have) done =
      let to : Away found.younger (without found.younger store) (e.landing (numbers words)) ≡ transfer = grind (arith, done) in
      let left = left_drop s r.graphs flows found.younger p.activation p.older todo p.todos position p.positions
      (record { of = p.of; activation = p.same; position = refl }, p.waiting) in
      subst EndsRelated to (continuation_related s r.graphs flows e (numbers words) (without found.younger store) (drop found.younger (todo ∷ p.todos))
      (drop found.younger (position ∷ p.positions)) (found_is s own value store.activations found e is is_exit)
      (subst (λ as_. AreLeft s r.graphs flows (drop found.younger as_) (drop found.younger (todo ∷ p.todos)) (drop found.younger (position ∷ p.positions))) (sym are) left))
  cut_related value words own tried transfer (CutsNot error) done = grind (arith, done)

  -- any order to which a node of the statement comes
  pub order_related : (o : Order) (kind : NodeKind) → kind_here r.graphs position ≡ kind → GoesOn young p.of.procedure p.of.flow store kind p.rest o →
      rest_after p.of.procedure 0 p.statement.form p.rest ≡ p.rest → (transfer : Transfer) → perform s o store ≡ Ok transfer → EndsRelated transfer
  order_related (order.PutByte value) kind is goes follows transfer done =
      let to : Stay 0 record store { output = store.output ++ value % 256 ∷ [] } ≡ transfer = grind (arith, done) in
      subst EndsRelated to (stay_related kind (record store { output = store.output ++ value % 256 ∷ [] }) goes.0 is goes.1 goes.2 follows refl (same_below store.activations))
  order_related (order.GetByte target) kind is goes follows transfer done =
      let taken = taken_leaves store in
      let leaves = assigned_leaves target (next_byte store.input) (one_taken store) in
      let to : Stay 0 (assigned target (next_byte store.input) (one_taken store)) ≡ transfer = grind (arith, done) in
      subst EndsRelated to (stay_related kind (assigned target (next_byte store.input) (one_taken store)) goes.0 is goes.1 goes.2 follows (leaves.status ∙ taken.0)
      (subst (λ as_. IsSameBelow as_ (assigned target (next_byte store.input) (one_taken store)).activations) taken.1 leaves.activations))
  order_related (order.Call site address words) kind is goes follows transfer done =
      let entered = entered_at s address words (λ n. Away 0 store (Called site n (numbers words))) (perform s (order.Call site address words) store) transfer
      (call_enters s store site address words) done in
      subst EndsRelated entered.3 (called_related s r.graphs flows site entered.0 (numbers words) store entered.1 todo p.todos position p.positions entered.2
      (all_wait kind site is follows goes))
  order_related (order.Yield site values) kind is goes follows transfer done =
      let to : Wait record store { activations = with_site (Some site) store.activations; log = store.log ++ yield_line values; status = Waiting values } ≡ transfer = grind (arith, done) in
      subst EndsRelated to (record { store = refl; controls = all_wait kind site is follows goes })
  order_related (order.Jump address words) kind is goes follows transfer done =
      let entered = entered_at s address words (λ n. Away 1 (without 1 store) (Instead n (numbers words))) (perform s (order.Jump address words) store) transfer
      (jump_enters s store address words) done in
      subst EndsRelated entered.3 (instead_related s r.graphs flows entered.0 (numbers words) (without 1 store) entered.1 p.todos p.positions entered.2 older_wait)
  order_related (order.Return exit alternates words) kind is goes follows transfer done =
      return_related exit alternates words (perform s (order.Return exit alternates words) store) transfer
      (return_leaves s store exit alternates words p.activation p.older are) done
  order_related (order.Cut value words own) kind is goes follows transfer done =
      cut_related value words own (perform s (order.Cut value words own) store) transfer (cut_cuts s store value words own) done
  order_related order.Nothing kind is goes follows transfer done = elim goes [ ]
  order_related (order.Assign ws) kind is goes follows transfer done = elim goes [ ]
  order_related (order.Choose way) kind is goes follows transfer done = elim goes [ ]
