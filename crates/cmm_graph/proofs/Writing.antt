-- What a step leaves: a node that leads on changes only the locals that it writes.
use Rattle.std.proofs.Common.{◌≡◌, ◌≢◌, ℕ, Bool, true, false, List, [], ◌∷◌, Contains, Ok, Err, Option, Some, None, refl, sym, ap, arith}
use Rattle.std.proofs.lemmas.Bool.Decides.{nat_tests}
use Rattle.std.proofs.lemmas.List.{get_or-set_other}
use Rattle.cmm_words.specs.declared.width.Width.{Width}
use Rattle.cmm_program.specs.declared.procedure.Target.{Target}
use Rattle.cmm_program.specs.declared.procedure.Target.TheVariants as target
use Rattle.cmm_program.specs.Errors.{Tried, BadAccess, and_then, provided}
use Rattle.cmm_program.specs.State.{Setting, Activation, Store, Status, Running, Waiting, Ended, Wrong, Outcome}
use Rattle.cmm_program.specs.Errors.{UncheckedError}
use Rattle.cmm_program.specs.Memory.{Memory}
use Rattle.cmm_program.specs.Acts as act
use Rattle.cmm_program.specs.Acts.{Act, evaluated}
use Rattle.cmm_program.specs.Todo.{if_way}
use Rattle.cmm_program.specs.Writes.{reads_of, with_variable, put_all}
use Rattle.cmm_program.specs.Performing.{Transfer, Stay, Wait, Away, Over, perform, one_taken, next_byte}
use Rattle.cmm_program.specs.Control.{State, transferred, over}
use Rattle.cmm_graph.specs.declared.number.NodeId.{NodeId}
use Rattle.cmm_graph.specs.declared.number.Variable.{Variable}
use Rattle.cmm_graph.specs.declared.number.Temporary.{Temporary}
use Rattle.cmm_graph.specs.declared.operand.Local.{Local}
use Rattle.cmm_graph.specs.declared.operand.Local.TheVariants as local
use Rattle.cmm_graph.specs.declared.operand.Destination.TheVariants as destination
use Rattle.cmm_graph.specs.declared.node.HostCall.TheVariants.{PutByte, GetByte}
use Rattle.cmm_graph.specs.declared.node.NodeKind.{NodeKind}
use Rattle.cmm_graph.specs.declared.node.NodeKind.TheVariants.{Assign, Store as StoreNode, Branch, Switch, Host, Goto}
use Rattle.cmm_graph.specs.declared.graph.Graph.{Graph}
use Rattle.cmm_graph.specs.Paths.{writes, written_to}
use Rattle.cmm_graph.specs.Values.{operand_value, rvalue_value, test_value}
use Rattle.cmm_graph.specs.Acting.{act_of, aim_at, arm_way, led}
use Rattle.cmm_graph.specs.GraphControl.{Position, graph_control, kind_here, keeping, put_to, moved_to, temporaries_after, with_temporary}
use Rattle.cmm_graph.specs.Laws.{held_among, held_in, UnwrittenKeepsValue}

-- ---- one local

apart : (v : Variable) (m : ℕ) → ¬ Contains (local.Variable (record { number = m }) ∷ []) (local.Variable v) → v.number ≢ m
apart v m unwritten is = unwritten (0, omega arith, ap (λ k. local.Variable (record { number = k })) (sym is))

temporaries_apart : (u t : Temporary) → ¬ Contains (local.Temporary t ∷ []) (local.Temporary u) → u.number ≢ t.number
temporaries_apart u t unwritten is = unwritten (0, omega arith, ap (λ k. local.Temporary (record { number = k })) (sym is))

-- a variable that takes a value, and the others
variable_leaves : (m x : ℕ) (width : Width) (activations : List Activation) (temporaries : Temporary → ℕ) (l : Local) →
    ¬ Contains (written_to (target.Variable m width)) l →
    held_among (with_variable activations m x) temporaries l ≡ held_among activations temporaries l
variable_leaves m x width [] temporaries l unwritten = refl
variable_leaves m x width (a ∷ older) temporaries (local.Variable v) unwritten =
    grind (arith, nat_tests, apart v m unwritten, get_or-set_other a.variables m v.number x 0)
variable_leaves m x width (a ∷ older) temporaries (local.Temporary t) unwritten = refl

-- a temporary that takes a value, and the others
temporary_leaves : (t : Temporary) (x : ℕ) (activations : List Activation) (temporaries : Temporary → ℕ) (l : Local) →
    ¬ Contains (local.Temporary t ∷ []) l →
    held_among activations (with_temporary t x temporaries) l ≡ held_among activations temporaries l
temporary_leaves t x activations temporaries (local.Variable v) unwritten = refl
temporary_leaves t x activations temporaries (local.Temporary u) unwritten = grind (arith, nat_tests, temporaries_apart u t unwritten)

-- taking input leaves the activations
taking_leaves : (store : Store) (input : List ℕ) → store.input ≡ input → (one_taken store).activations ≡ store.activations
taking_leaves store [] is = rw is refl
taking_leaves store (byte ∷ rest) is = rw is refl

-- ---- one node

module _ (s : Setting) (store : Store) (c : Position) (l : Local) where
  -- what a node comes to leaves a local: it stays in its activation, or goes wrong
  abbrev Leaves : NodeKind → Tried Transfer → Type 0
  Leaves kind (Ok (Stay way after)) = held_among after.activations (temporaries_after way kind c.temporaries) l ≡ held_among store.activations c.temporaries l
  Leaves kind (Ok _) = ⊥
  Leaves kind (Err e) = Unit {0}

  abbrev comes_to : Act → Tried Transfer
  comes_to what = and_then (evaluated (reads_of s store) what) (λ order. perform s order store)

  -- an assignment, by what its right side gives
  to_target : (t : Target) (kind : NodeKind) → ((way : ℕ) → temporaries_after way kind c.temporaries ≡ c.temporaries) → ¬ Contains (written_to t) l →
      (given : Tried ℕ) → Leaves kind (comes_to (put_to (destination.Target t) (λ _. given)))
  to_target (target.Variable m width) kind same unwritten (Ok x) = rw (same 0) (variable_leaves m x width store.activations c.temporaries l unwritten)
  to_target (target.Register m width) kind same unwritten (Ok x) = rw (same 0) refl
  to_target t kind same unwritten (Err e) = tt

  -- a store, by its address, its value and whether it may be done
  to_memory : (memory : Memory) (kind : NodeKind) → ((way : ℕ) → temporaries_after way kind c.temporaries ≡ c.temporaries) → (allowed : Bool) →
      Leaves kind (and_then (and_then (provided allowed BadAccess (Ok record store { memory = memory })) (put_all [])) (λ after. Ok (Stay 0 after)))
  to_memory memory kind same true = rw (same 0) refl
  to_memory memory kind same false = tt

  at_address : (kind : NodeKind) → ((way : ℕ) → temporaries_after way kind c.temporaries ≡ c.temporaries) → (width : Width) (aligned : ℕ) (address value : Tried ℕ) →
      Leaves kind (comes_to (act.Assign (aim_at (keeping c) width aligned (λ _. address) ∷ []) ((λ _. value) ∷ [])))
  at_address kind same width aligned (Ok a) (Ok x) = to_memory _ kind same _
  at_address kind same width aligned (Ok a) (Err e) = tt
  at_address kind same width aligned (Err e) value = tt

  -- a choice, by the way that it takes
  by_way : (kind : NodeKind) → ((way : ℕ) → temporaries_after way kind c.temporaries ≡ c.temporaries) → (way : Tried ℕ) →
      Leaves kind (comes_to (act.Choose (λ _. way)))
  by_way kind same (Ok way) = rw (same way) refl
  by_way kind same (Err e) = tt

  to_output : (kind : NodeKind) → ((way : ℕ) → temporaries_after way kind c.temporaries ≡ c.temporaries) → (value : Tried ℕ) →
      Leaves kind (comes_to (act.PutByte (λ _. value)))
  to_output kind same (Ok x) = rw (same 0) refl
  to_output kind same (Err e) = tt

  from_input : (t : Target) (kind : NodeKind) → ((way : ℕ) → temporaries_after way kind c.temporaries ≡ c.temporaries) → ¬ Contains (written_to t) l →
      Leaves kind (comes_to (act.GetByte t))
  from_input (target.Variable m width) kind same unwritten =
      rw (same 0, taking_leaves store store.input refl) (variable_leaves m (next_byte store.input) width store.activations c.temporaries l unwritten)
  from_input (target.Register m width) kind same unwritten = rw (same 0, taking_leaves store store.input refl) refl

  -- each node that leads on leaves what it does not write
  node_leaves : (kind : NodeKind) (n : NodeId) → led 0 kind ≡ Some n → ¬ Contains (writes kind) l → Leaves kind (comes_to (act_of (keeping c) kind))
  node_leaves (Assign (destination.Target t) value next) n is unwritten =
      to_target t (Assign (destination.Target t) value next) (λ way. refl) unwritten (rvalue_value (keeping c).held value (reads_of s store))
  node_leaves (Assign (destination.Temporary t) value next) n is unwritten = by (rvalue_value (keeping c).held value (reads_of s store)) where
    by : (given : Tried ℕ) → Leaves (Assign (destination.Temporary t) value next) (comes_to (act.Choose (λ _. given)))
    by (Ok x) = temporary_leaves t x store.activations c.temporaries l unwritten
    by (Err e) = tt
  node_leaves (StoreNode width aligned address value next) n is unwritten =
      at_address (StoreNode width aligned address value next) (λ way. refl) width aligned
      (operand_value (keeping c).held address (reads_of s store)) (operand_value (keeping c).held value (reads_of s store))
  node_leaves (Branch test then_ otherwise) n is unwritten =
      by_way (Branch test then_ otherwise) (λ way. refl) (if_way (test_value (keeping c).held test) (reads_of s store))
  node_leaves (Switch value arms otherwise) n is unwritten =
      by_way (Switch value arms otherwise) (λ way. refl) (and_then (operand_value (keeping c).held value (reads_of s store)) (λ v. Ok (arm_way arms v)))
  node_leaves (Host (PutByte value) next) n is unwritten =
      to_output (Host (PutByte value) next) (λ way. refl) (operand_value (keeping c).held value (reads_of s store))
  node_leaves (Host (GetByte to) next) n is unwritten = from_input to (Host (GetByte to) next) (λ way. refl) unwritten
  node_leaves (Goto next) n is unwritten = refl
  node_leaves kind n is unwritten = grind (arith, is)

-- ---- one step

moved_holds : (to : Option NodeId) (c : Position) (activations : List Activation) (l : Local) →
    held_among activations (moved_to to c).temporaries l ≡ held_among activations c.temporaries l
moved_holds (Some n) c activations l = refl
moved_holds None c activations l = refl

module _ (graphs : List Graph) (s : Setting) (store : Store) (c : Position) (cs : List Position) (l : Local) where
  abbrev done : Tried Transfer → State Position
  done tried = elim tried [
    | Ok transfer ↦ transferred (graph_control graphs) s transfer (c ∷ cs)
    | Err e ↦ record { store = over (Wrong e) store; controls = c ∷ cs }
  ]

  done_leaves : (tried : Tried Transfer) → Leaves s store c l (kind_here graphs c) tried →
      held_in (done tried) l ≡ held_among store.activations c.temporaries l
  done_leaves (Ok (Stay way after)) leaves = grind (arith, leaves, moved_holds (led way (kind_here graphs c)) (record c { temporaries = temporaries_after way (kind_here graphs c) c.temporaries }) after.activations l)
  done_leaves (Ok (Wait after)) leaves = absurd leaves
  done_leaves (Ok (Away gone after landing)) leaves = absurd leaves
  done_leaves (Ok (Over gone after)) leaves = absurd leaves
  done_leaves (Err e) leaves = refl

  runs : {A : Type 0} (a : A) (b : List ℕ → A) (d : Outcome → A) (e : UncheckedError → A) (status : Status) → status ≡ Running →
      elim status [ Running ↦ a | Waiting values ↦ b values | Ended outcome ↦ d outcome | Wrong error ↦ e error ] ≡ a
  runs a b d e status is = rw is refl

-- a step leaves what its node does not write
pub unwritten_keeps_value : UnwrittenKeepsValue
unwritten_keeps_value graphs s store c cs l n running leads unwritten =
    let leaves = done_leaves graphs s store c cs l _ (node_leaves s store c l (kind_here graphs c) n leads unwritten) in
    rw (running) leaves
