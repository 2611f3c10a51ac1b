-- nodes that lead on in their activation
use Rattle.std.proofs.Common.{◌≡◌, ◌≢◌, ℕ, zero, suc, ◌+◌, ◌-◌, ◌<◌, nat_lt, Bool, true, false, Contains, List, [], ◌∷◌, ◌++◌, map, length, slice_get, slice_index_or, slice_set, Ok, Err, Option, Some, None, arith, refl, sym, ap, ◌∙◌, subst}
use Rattle.std.specs.Prelude.{◌%◌}
use Rattle.std.proofs.lemmas.Bool.Decides.{nat_tests}
use Rattle.std.proofs.lemmas.List.{get_or-set_same, get_or-set_other, length-set}
use Rattle.std.proofs.lemmas.List.Elements.{Contains-append_left, Contains-append_right}
use Rattle.cmm_words.specs.Widths.{bytes}
use Rattle.cmm_words.specs.declared.width.Width.{Width}
use Rattle.cmm_program.specs.declared.procedure.Target.{Target}
use Rattle.cmm_program.specs.declared.procedure.Target.TheVariants as target
use Rattle.cmm_program.specs.Acts as act
use Rattle.cmm_program.specs.Acts.{evaluated}
use Rattle.cmm_program.specs.Control.{State, over, transferred}
use Rattle.cmm_program.specs.Errors.{Tried, and_then, all_of, provided, BadAccess}
use Rattle.cmm_program.specs.Layout.{bytes_of}
use Rattle.cmm_program.specs.Machine.{step_of}
use Rattle.cmm_program.specs.Memory.{cell_at, with_bytes}
use Rattle.cmm_program.specs.Orders as order
use Rattle.cmm_program.specs.Orders.{Order, Held, Memory, Place}
use Rattle.cmm_program.specs.Performing.{Transfer, Stay, perform, next_byte}
use Rattle.cmm_program.specs.State.{Setting, Activation, Store, Wrong, stack_top}
use Rattle.cmm_program.specs.Values.{Reads, may_access}
use Rattle.cmm_program.specs.Writes.{assigned, reads_of}
use Rattle.cmm_graph.specs.declared.number.NodeId.{NodeId}
use Rattle.cmm_graph.specs.declared.number.Temporary.{Temporary}
use Rattle.cmm_graph.specs.declared.operand.Local.{Local}
use Rattle.cmm_graph.specs.declared.operand.Local.TheVariants as local
use Rattle.cmm_graph.specs.declared.operand.Operand.{Operand}
use Rattle.cmm_graph.specs.declared.operand.Comparison.{Comparison}
use Rattle.cmm_graph.specs.declared.operand.Destination.{Destination}
use Rattle.cmm_graph.specs.declared.operand.Destination.TheVariants as destination
use Rattle.cmm_graph.specs.declared.operand.Rvalue.{Rvalue}
use Rattle.cmm_graph.specs.declared.node.Arm.{Arm}
use Rattle.cmm_graph.specs.declared.graph.Graph.{Graph}
use Rattle.cmm_graph.specs.declared.node.HostCall.TheVariants.{PutByte, GetByte}
use Rattle.cmm_graph.specs.declared.node.NodeKind.{NodeKind}
use Rattle.cmm_graph.specs.declared.node.NodeKind.TheVariants as kind
use Rattle.cmm_graph.specs.Acting.{act_of, arm_way, led}
use Rattle.cmm_graph.specs.GraphControl as graph
use Rattle.cmm_graph.specs.GraphControl.{Position, graph_control, kind_at, moved_to, temporaries_after, with_temporary}
use Rattle.cmm_graph.specs.Laws.{OrderIsByReads, ValueIsByReads, is_assignment}
use Rattle.cmm_graph.specs.Paths.{arm_nodes, successors, writes}
use Rattle.cmm_graph.specs.Ranges.{is_local}
use Rattle.cmm_graph.specs.Values.{operand_value, rvalue_value}
use Rattle.cmm_live.specs.Locals.{local_number}
use Rattle.cmm_chain.specs.Plans.{IsPlanned}
use Rattle.cmm_chain.specs.Contents.{Number}
use Rattle.cmm_chain.specs.Running.{Holdings, HasValues, IsFramed, put_in, with_number}
use Rattle.cmm_chain.proofs.Shared.{put_keeps_frame, write_keeps_values}
use Rattle.cmm_located.specs.Compiled.{Compiled, Located, bare, place_of}
use Rattle.cmm_located.specs.LocatedMachine.{located_step, tried}
use Rattle.cmm_located.specs.Nodes.{done, got, keeping, onward, ran_at, reads_at}
use Rattle.cmm_located.specs.Nodes.{transferred as places_transferred}
use Rattle.cmm_located.specs.Relation.{Liveness, Related, Runs, suspensions, value_at, variable_count}
use Rattle.cmm_located.specs.SameOrders.{HasFrames, ReadsAreLive}
use Rattle.cmm_located.specs.Steps.{KeepsLive, leads_on}
use Rattle.cmm_located.proofs.Following.{wrong_in}
use Rattle.cmm_located.proofs.Ordering.{hold_alike, same_orders, same_reads}
use Rattle.cmm_located.proofs.Ordering.{variables as order_variables}
use Rattle.cmm_located.proofs.Parts.{located_of, position_of, running, state_of}

nothing : (u : ℕ) → ¬ Contains [] u
nothing u found = omega (arith, found.1)

-- a list of one has no other
only : (x u : ℕ) → u ≢ x → ¬ Contains (x ∷ []) u
only x u other found = by found.0 found.1 found.2
  where
    by : (k : ℕ) → k < 1 → slice_index_or (x ∷ []) k u ≡ u → ⊥
    by zero less is = other (sym is)
    by (suc k) less is = omega arith

-- an arm's node is one of those to which a switch leads
arms_lead : (arms : List Arm) (way : ℕ) (arm : Arm) → slice_get arms way ≡ Some arm → Contains (arm_nodes arms) arm.to
arms_lead [] way arm is = grind (arith, is)
arms_lead (x ∷ arms) zero arm is =
    let same : x ≡ arm = grind (arith, is) in Contains-append_left (x.to ∷ []) (arm_nodes arms) arm.to (0, omega arith, ap (λ (y : Arm). y.to) same)
arms_lead (x ∷ arms) (suc way) arm is = Contains-append_right (x.to ∷ []) (arm_nodes arms) arm.to (arms_lead arms way arm is)

switch_leads : (arms : List Arm) (otherwise : NodeId) (way : ℕ) (found : Option Arm) → slice_get arms way ≡ found →
    (m : NodeId) × (elim (slice_get arms way) as (λ _. Option NodeId) [ Some arm ↦ Some arm.to | None ↦ Some otherwise ] ≡ Some m) × Contains (arm_nodes arms ++ otherwise ∷ []) m
switch_leads arms otherwise way (Some arm) is = (
  arm.to,
  ap (λ o. elim o as (λ _. Option NodeId) [ Some arm ↦ Some arm.to | None ↦ Some otherwise ]) is,
  Contains-append_left (arm_nodes arms) (otherwise ∷ []) arm.to (arms_lead arms way arm is),
)
switch_leads arms otherwise way None is = (
  otherwise,
  ap (λ o. elim o as (λ _. Option NodeId) [ Some arm ↦ Some arm.to | None ↦ Some otherwise ]) is,
  Contains-append_right (arm_nodes arms) (otherwise ∷ []) otherwise (0, omega arith, refl),
)

-- the value of a local once a variable has another one
pub variable_value : (count n v u : ℕ) (xs : List ℕ) (f : ℕ → ℕ) → n < count → length xs ≡ count →
    with_number n v (λ w. elim (nat_lt w count) as (λ _. ℕ) [ true ↦ slice_index_or xs w 0 | false ↦ f w ]) u
    ≡ elim (nat_lt u count) as (λ _. ℕ) [ true ↦ slice_index_or (slice_set xs n v) u 0 | false ↦ f u ]
variable_value count n v u xs f less same =
    grind (arith, nat_tests, get_or-set_same xs n v 0, get_or-set_other xs n u v 0)

-- and once a temporary has another one
temporary_value : (count k v u : ℕ) (xs : List ℕ) (f : Temporary → ℕ) (t : Temporary) → k ≡ count + t.number →
    with_number k v (λ w. elim (nat_lt w count) as (λ _. ℕ) [ true ↦ slice_index_or xs w 0 | false ↦ f (record { number = w - count }) ]) u
    ≡ elim (nat_lt u count) as (λ _. ℕ) [ true ↦ slice_index_or xs u 0 | false ↦ with_temporary t v f (record { number = u - count }) ]
temporary_value count k v u xs f t is = grind (arith, nat_tests)

module _ (s : Setting) (c : Compiled) (live : Liveness) (frames : HasFrames s c) (store : Store) (a : Activation) (older : List Activation) (p : Position)
    (ps : List Position) (h : Holdings) (carried : List ℕ)
    (runs : Runs s c live a older (position_of a p) ps (located_of store a older p.node h carried)) where
  abbrev pub Here : Position
  Here = position_of a p

  abbrev pub Now : Store
  Now = running store (a ∷ older)

  abbrev pub There : Located
  There = located_of store a older p.node h carried

  -- what a transfer or an error makes of the state
  abbrev pub after_transfer : Tried Transfer → State Position
  after_transfer t = elim t [
    | Ok transfer ↦ transferred (graph_control c.graphs) s transfer (Here ∷ ps)
    | Err error ↦ record { store = over (Wrong error) Now; controls = Here ∷ ps }
  ]

  abbrev pub graph_does : Tried Order → State Position
  graph_does t = after_transfer (and_then t (λ o. perform s o Now))

  abbrev pub places_do : NodeKind → Tried Order → Located
  places_do node t = tried s c There (and_then t (λ o. done s c node o There))

  count_is : (g : Graph) → slice_get c.graphs a.procedure ≡ Some g → variable_count c.graphs a.procedure ≡ g.variables
  count_is g is = ap (λ o. elim o as (λ _. ℕ) [ Some g ↦ g.variables | None ↦ 0 ]) is

  below_count : (n : ℕ) (g : Graph) → slice_get c.graphs a.procedure ≡ Some g → nat_lt n g.variables ≡ true → n < variable_count c.graphs a.procedure
  below_count n g is less = let count = count_is g is in let under : n < g.variables = grind (arith, nat_tests, less) in omega arith

  -- what a temporary holds, by the number of a local
  abbrev past_variables : ℕ → ℕ
  past_variables w = p.temporaries (record { number = w - variable_count c.graphs a.procedure })

  -- the node where the youngest stands is this one
  abbrev pub Stands : NodeKind → Type 0
  Stands node = kind_at c.graphs a.procedure p.node ≡ node

  abbrev pub Before : State Position
  Before = state_of store a older p ps

  -- a step that does not go wrong is one step over locations
  abbrev pub IsStepDone : Type 0
  IsStepDone = wrong_in (step_of (graph_control c.graphs) s Before).store ≡ false → Related s c live (step_of (graph_control c.graphs) s Before) (located_step s c There)

  pub done_by : {st : State Position} {at : Located} → step_of (graph_control c.graphs) s Before ≡ st → located_step s c There ≡ at →
      (wrong_in st.store ≡ false → Related s c live st at) → IsStepDone
  done_by {st = st} {at = at} is is_at related =
      subst (λ y. wrong_in (step_of (graph_control c.graphs) s Before).store ≡ false → Related s c live (step_of (graph_control c.graphs) s Before) y) (sym is_at)
      (subst (λ (x : State Position). wrong_in x.store ≡ false → Related s c live x at) (sym is) related)

  pub step_is : (node : NodeKind) → Stands node →
      step_of (graph_control c.graphs) s (state_of store a older p ps) ≡ graph_does (evaluated (reads_of s Now) (act_of (graph.keeping Here) node))
  step_is node is = ap (λ n. graph_does (evaluated (reads_of s Now) (act_of (graph.keeping Here) n))) is

  pub places_step_is : (node : NodeKind) → Stands node → located_step s c There ≡ tried s c There (ran_at s c node There)
  places_step_is node is = ap (λ n. tried s c There (ran_at s c n There)) is

  -- ---- where the youngest goes on

  module _ (node : NodeKind) (is : Stands node) where
    -- it has gone on to a node, with other values
    goes_on : (way other : ℕ) (m : NodeId) (after : Store) (variables : List ℕ) (g : Holdings) → led way node ≡ Some m → led other node ≡ Some m →
        length variables ≡ length a.variables →
        HasValues c.plan a.procedure g (live a.procedure m) (value_at c.graphs (record a { variables = variables }) (record p { temporaries = temporaries_after way node p.temporaries })) →
        IsFramed c.plan (stack_top s) a.procedure (suspensions c.graphs older ps) g →
        Related s c live (record { store = running after (record a { variables = variables } ∷ older); controls = (graph_control c.graphs).on way Here ∷ ps })
        (onward s c other node (record There { store = running after (map bare (a ∷ older)); holdings = g }))
    goes_on way other m after variables g leads leads_other same values framed =
        let at : Located = record There { store = running after (map bare (a ∷ older)); holdings = g } in
        let now : Store = running after (record a { variables = variables } ∷ older) in
        subst (λ n. Related s c live (record { store = now; controls = moved_to (led way n) (record Here { temporaries = temporaries_after way n p.temporaries }) ∷ ps }) (onward s c other node at)) (sym is)
        (subst (λ o. Related s c live (record { store = now; controls = moved_to o (record Here { temporaries = temporaries_after way node p.temporaries }) ∷ ps }) (onward s c other node at)) (sym leads)
        (subst (λ o. Related s c live (record { store = now; controls = record Here { node = m; temporaries = temporaries_after way node p.temporaries } ∷ ps })
        (elim o as (λ _. Located) [ Some n ↦ record at { node = n } | None ↦ at ])) (sym leads_other)
        record {
          store = refl;
          stands = record {
            ghosts = refl;
            procedure = refl;
            same = refl;
            node = refl;
            exists = runs.exists;
            variables = same ∙ runs.variables;
            values = values;
            framed = framed;
            waits = runs.waits;
          };
        }))

    -- both machines do the same order
    abbrev Does : Tried Order → Type 0
    Does t = wrong_in (graph_does t).store ≡ false → Related s c live (graph_does t) (places_do node t)

    module _ (reads : ReadsAreLive c live a.procedure p.node node) where
      by_order : OrderIsByReads → is_assignment node ≡ false →
          ran_at s c node There ≡ and_then (evaluated (reads_at s c There) (act_of (keeping s c There) node)) (λ o. done s c node o There) →
          Does (evaluated (reads_of s Now) (act_of (graph.keeping Here) node)) → IsStepDone
      by_order by_reads plain is_run does =
          let same = same_orders by_reads s c live Before a older Here ps There node frames refl refl runs reads plain in
          done_by (step_is node is) (places_step_is node is ∙ (ap (λ t. tried s c There t) is_run ∙ ap (λ t. places_do node t) same)) does

    module _ (reads : ReadsAreLive c live a.procedure p.node node) (keeps : KeepsLive c live a.procedure p.node node) where
      -- nothing is written
      keeps_values : (m : NodeId) → writes node ≡ [] → Contains (successors reads.of node) m → HasValues c.plan a.procedure h (live a.procedure m) (value_at c.graphs a p)
      keeps_values m none leads u is_live =
          runs.values u (keeps.unwritten reads.of m u reads.is_graph leads is_live
          (λ found. nothing u (subst (λ l. Contains (map (local_number reads.of) l) u) none found)))

      -- one local takes a value
      module _ (planned : IsPlanned c.plan) (m : NodeId) (l : Local) (x : ℕ) (one : writes node ≡ l ∷ []) (leads : Contains (successors reads.of node) m) where
        abbrev put_there : Holdings
        put_there = put_in (place_of c a.procedure l) (Number x) h

        place_is : place_of c a.procedure l ≡ c.plan.place a.procedure (local_number reads.of l)
        place_is = ap (λ o. c.plan.place a.procedure (elim o as (λ _. ℕ) [ Some g ↦ local_number g l | None ↦ 0 ])) reads.is_graph

        is_written : Contains (writes node) l
        is_written = subst (λ ls. Contains ls l) (sym one) (0, omega arith, refl)

        has_local : is_local reads.of l ≡ true
        has_local = keeps.written reads.of l reads.is_graph is_written

        put_values : HasValues c.plan a.procedure put_there (live a.procedure m) (with_number (local_number reads.of l) x (value_at c.graphs a p))
        put_values =
            subst (λ place. HasValues c.plan a.procedure (put_in place (Number x) h) (live a.procedure m) (with_number (local_number reads.of l) x (value_at c.graphs a p))) (sym place_is)
            (write_keeps_values c.plan a.procedure h (live a.procedure p.node) (live a.procedure m) (value_at c.graphs a p) (local_number reads.of l) x
            (λ u is_live other. (
              keeps.unwritten reads.of m u reads.is_graph leads is_live
                  (λ found. only (local_number reads.of l) u other (subst (λ ls. Contains (map (local_number reads.of) ls) u) one found)),
              keeps.apart reads.of m u l reads.is_graph leads is_live is_written other,
            ))
            runs.values)

        put_framed : IsFramed c.plan (stack_top s) a.procedure (suspensions c.graphs older ps) put_there
        put_framed =
            subst (λ place. IsFramed c.plan (stack_top s) a.procedure (suspensions c.graphs older ps) (put_in place (Number x) h)) (sym place_is)
            (put_keeps_frame c.plan (stack_top s) a.procedure (suspensions c.graphs older ps) h (c.plan.place a.procedure (local_number reads.of l)) (Number x)
            (planned.places a.procedure (local_number reads.of l) runs.exists) (planned.laid a.procedure runs.exists) runs.framed)

  -- ---- nodes that write no local

  module _ (next : NodeId) where
    abbrev goto : NodeKind
    goto = kind.Goto next

    goto_steps : OrderIsByReads → (is : Stands goto) → ReadsAreLive c live a.procedure p.node goto → KeepsLive c live a.procedure p.node goto → IsStepDone
    goto_steps by_reads is reads keeps = by_order goto is reads by_reads refl refl
        (λ right. goes_on goto is 0 0 next store a.variables h refl refl refl (keeps_values goto is reads keeps next refl (0, omega arith, refl)) runs.framed)

  module _ (value : Operand) (next : NodeId) where
    abbrev put_byte : NodeKind
    put_byte = kind.Host (PutByte value) next

    module _ (is : Stands put_byte) (reads : ReadsAreLive c live a.procedure p.node put_byte) (keeps : KeepsLive c live a.procedure p.node put_byte) where
      put_byte_cases : (x : Tried ℕ) → Does put_byte is (and_then x (λ v. Ok (order.PutByte v)))
      put_byte_cases (Err e) right = absurd (cc)
      put_byte_cases (Ok v) right = goes_on put_byte is 0 0 next (record store { output = store.output ++ v % 256 ∷ [] }) a.variables h refl refl refl
          (keeps_values put_byte is reads keeps next refl (0, omega arith, refl)) runs.framed

      put_byte_steps : OrderIsByReads → IsStepDone
      put_byte_steps by_reads = by_order put_byte is reads by_reads refl refl (put_byte_cases _)

  module _ (test : Comparison) (then_ otherwise : NodeId) where
    abbrev branch : NodeKind
    branch = kind.Branch test then_ otherwise

    module _ (is : Stands branch) (reads : ReadsAreLive c live a.procedure p.node branch) (keeps : KeepsLive c live a.procedure p.node branch) where
      branch_cases : (x : Tried ℕ) → Does branch is (and_then x (λ n. Ok (order.Choose n)))
      branch_cases (Err e) right = absurd (cc)
      branch_cases (Ok zero) right =
          goes_on branch is 0 0 then_ store a.variables h refl refl refl (keeps_values branch is reads keeps then_ refl (0, omega arith, refl)) runs.framed
      branch_cases (Ok (suc n)) right =
          goes_on branch is (suc n) (suc n) otherwise store a.variables h refl refl refl (keeps_values branch is reads keeps otherwise refl (1, omega arith, refl)) runs.framed

      branch_steps : OrderIsByReads → IsStepDone
      branch_steps by_reads = by_order branch is reads by_reads refl refl (branch_cases _)

  module _ (value : Operand) (arms : List Arm) (otherwise : NodeId) where
    abbrev switch : NodeKind
    switch = kind.Switch value arms otherwise

    module _ (is : Stands switch) (reads : ReadsAreLive c live a.procedure p.node switch) (keeps : KeepsLive c live a.procedure p.node switch) where
      switch_cases : (x : Tried ℕ) → Does switch is (and_then x (λ n. Ok (order.Choose n)))
      switch_cases (Err e) right = absurd (cc)
      switch_cases (Ok way) right =
          let to = switch_leads arms otherwise way (slice_get arms way) refl in
          goes_on switch is way way to.0 store a.variables h to.1 to.1 refl (keeps_values switch is reads keeps to.0 refl to.2) runs.framed

      switch_steps : OrderIsByReads → IsStepDone
      switch_steps by_reads = by_order switch is reads by_reads refl refl
          (λ right. choose_way (operand_value (graph.keeping Here).held value (reads_of s Now)) right)
        where
          choose_way : (x : Tried ℕ) → Does switch is (and_then (and_then x (λ v. Ok (arm_way arms v))) (λ n. Ok (order.Choose n)))
          choose_way (Err e) right = absurd (cc)
          choose_way (Ok v) right = switch_cases (Ok (arm_way arms v)) right

  module _ (width : Width) (aligned : ℕ) (address value : Operand) (next : NodeId) where
    abbrev storing : NodeKind
    storing = kind.Store width aligned address value next

    -- the store with the word, if it may be accessed
    abbrev stored : Store → ℕ → ℕ → Bool → Tried Transfer
    stored before at x ok = and_then (and_then (provided ok BadAccess (Ok record before { memory = with_bytes store.memory at (bytes_of (bytes width) x) })) (λ after. Ok after)) (λ after. Ok (Stay 0 after))

    module _ (is : Stands storing) (reads : ReadsAreLive c live a.procedure p.node storing) (keeps : KeepsLive c live a.procedure p.node storing) where
      store_access : (at x : ℕ) (ok : Bool) → wrong_in (after_transfer (stored Now at x ok)).store ≡ false →
          Related s c live (after_transfer (stored Now at x ok)) (tried s c There (and_then (stored There.store at x ok) (λ t. Ok (places_transferred s c storing t There))))
      store_access at x false right = absurd (cc)
      store_access at x true right =
          goes_on storing is 0 0 next (record store { memory = with_bytes store.memory at (bytes_of (bytes width) x) }) a.variables h refl refl refl
          (keeps_values storing is reads keeps next refl (0, omega arith, refl)) runs.framed

      store_cases : (x y : Tried ℕ) → Does storing is
          (and_then (all_of (and_then x (λ at. Ok (Memory width aligned at)) ∷ [])) (λ places. and_then (all_of (y ∷ [])) (λ values. Ok (order.Assign (order.writes places values)))))
      store_cases (Err e) y right = absurd (cc)
      store_cases (Ok at) (Err e) right = absurd (cc)
      store_cases (Ok at) (Ok x) right = store_access at x (may_access (cell_at store.memory) (bytes width) aligned at) right

      store_steps : OrderIsByReads → IsStepDone
      store_steps by_reads = by_order storing is reads by_reads refl refl (store_cases _ _)

  -- ---- assignments

  -- the store once a byte is taken from its input
  abbrev took : Store → List ℕ → Store
  took before input = elim input as (λ _. Store) [ [] ↦ before | byte ∷ rest ↦ record before { input = rest; taken = before.taken ++ byte ∷ [] } ]

  -- the order by which a place of the store takes a value
  abbrev assigns : Target → Tried ℕ → Tried Order
  assigns to x = evaluated (reads_of s Now) (act.Assign ((λ reads. Ok (Held to)) ∷ []) ((λ reads. x) ∷ []))

  module _ (to : Destination) (value : Rvalue) (next : NodeId) where
    abbrev assignment : NodeKind
    assignment = kind.Assign to value next

    abbrev value_here : Tried ℕ
    value_here = rvalue_value (graph.keeping Here).held value (reads_of s Now)

    -- the value is the same over locations
    value_is : ValueIsByReads → ReadsAreLive c live a.procedure p.node assignment → rvalue_value (keeping s c There).held value (reads_at s c There) ≡ value_here
    value_is by_values reads =
        by_values (keeping s c There).held (graph.keeping Here).held (reads_at s c There) (order_variables s c live Before a older Here ps There frames refl refl runs) value
        (hold_alike s c live Before a older Here ps There frames refl refl runs assignment reads)
        ∙ ap (λ (r : Reads). rvalue_value (graph.keeping Here).held value r) (same_reads s c live Before a older Here ps There frames refl refl runs)

  module _ (planned : IsPlanned c.plan) where
    module _ (n : ℕ) (width : Width) (value : Rvalue) (next : NodeId) where
      abbrev to_variable : NodeKind
      to_variable = assignment (destination.Target (target.Variable n width)) value next

      module _ (is : Stands to_variable) (reads : ReadsAreLive c live a.procedure p.node to_variable) (keeps : KeepsLive c live a.procedure p.node to_variable) where
        variable_cases : (x : Tried ℕ) → wrong_in (graph_does (assigns (target.Variable n width) x)).store ≡ false →
            Related s c live (graph_does (assigns (target.Variable n width) x)) (places_do to_variable (and_then x (λ v. Ok (order.Choose v))))
        variable_cases (Err e) right = absurd (cc)
        variable_cases (Ok v) right =
            let l : Local = local.Variable (record { number = n }) in
            goes_on to_variable is 0 v next store (slice_set a.variables n v) (put_there to_variable is reads keeps planned next l v refl (0, omega arith, refl)) refl refl
            (length-set a.variables n v)
            (λ u is_live. put_values to_variable is reads keeps planned next l v refl (0, omega arith, refl) u is_live
            ∙ ap Number (variable_value (variable_count c.graphs a.procedure) n v u a.variables past_variables (below_count n reads.of reads.is_graph (has_local to_variable is reads keeps planned next l v refl (0, omega arith, refl))) runs.variables))
            (put_framed to_variable is reads keeps planned next l v refl (0, omega arith, refl))

        variable_steps : ValueIsByReads → IsStepDone
        variable_steps by_values = done_by (step_is to_variable is)
            (places_step_is to_variable is
            ∙ ap (λ x. places_do to_variable (and_then x (λ v. Ok (order.Choose v)))) (value_is (destination.Target (target.Variable n width)) value next by_values reads))
            (variable_cases (value_here (destination.Target (target.Variable n width)) value next))

    module _ (t : Temporary) (value : Rvalue) (next : NodeId) where
      abbrev to_temporary : NodeKind
      to_temporary = assignment (destination.Temporary t) value next

      module _ (is : Stands to_temporary) (reads : ReadsAreLive c live a.procedure p.node to_temporary) (keeps : KeepsLive c live a.procedure p.node to_temporary) where
        temporary_cases : (x : Tried ℕ) → Does to_temporary is (and_then x (λ v. Ok (order.Choose v)))
        temporary_cases (Err e) right = absurd (cc)
        temporary_cases (Ok v) right =
            let l : Local = local.Temporary t in
            goes_on to_temporary is v v next store a.variables (put_there to_temporary is reads keeps planned next l v refl (0, omega arith, refl)) refl refl refl
            (λ u is_live. put_values to_temporary is reads keeps planned next l v refl (0, omega arith, refl) u is_live
            ∙ ap Number (temporary_value (variable_count c.graphs a.procedure) (reads.of.variables + t.number) v u a.variables p.temporaries t (ap (λ m. m + t.number) (sym (count_is reads.of reads.is_graph)))))
            (put_framed to_temporary is reads keeps planned next l v refl (0, omega arith, refl))

        temporary_steps : ValueIsByReads → IsStepDone
        temporary_steps by_values = done_by (step_is to_temporary is)
            (places_step_is to_temporary is
            ∙ ap (λ x. places_do to_temporary (and_then x (λ v. Ok (order.Choose v)))) (value_is (destination.Temporary t) value next by_values reads))
            (temporary_cases (value_here (destination.Temporary t) value next))

    -- ---- input

    module _ (n : ℕ) (width : Width) (next : NodeId) where
      abbrev get_variable : NodeKind
      get_variable = kind.Host (GetByte (target.Variable n width)) next

      module _ (is : Stands get_variable) (reads : ReadsAreLive c live a.procedure p.node get_variable) (keeps : KeepsLive c live a.procedure p.node get_variable) where
        takes_byte : (after : Store) (v : ℕ) → Related s c live
            (record { store = running after (record a { variables = slice_set a.variables n v } ∷ older); controls = (graph_control c.graphs).on 0 Here ∷ ps })
            (onward s c 0 get_variable (record There { store = running after (map bare (a ∷ older)); holdings = put_in (place_of c a.procedure (local.Variable (record { number = n }))) (Number v) h }))
        takes_byte after v =
            let l : Local = local.Variable (record { number = n }) in
            goes_on get_variable is 0 0 next after (slice_set a.variables n v) (put_there get_variable is reads keeps planned next l v refl (0, omega arith, refl)) refl refl
            (length-set a.variables n v)
            (λ u is_live. put_values get_variable is reads keeps planned next l v refl (0, omega arith, refl) u is_live
            ∙ ap Number (variable_value (variable_count c.graphs a.procedure) n v u a.variables past_variables (below_count n reads.of reads.is_graph (has_local get_variable is reads keeps planned next l v refl (0, omega arith, refl))) runs.variables))
            (put_framed get_variable is reads keeps planned next l v refl (0, omega arith, refl))

        variable_input : (input : List ℕ) → Related s c live
            (record { store = assigned (target.Variable n width) (next_byte input) (took Now input); controls = (graph_control c.graphs).on 0 Here ∷ ps })
            (onward s c 0 get_variable (got s c (target.Variable n width) (next_byte input) (record There { store = took There.store input })))
        variable_input [] = takes_byte store (next_byte [])
        variable_input (byte ∷ rest) = takes_byte (record store { input = rest; taken = store.taken ++ byte ∷ [] }) byte

        get_variable_steps : OrderIsByReads → IsStepDone
        get_variable_steps by_reads = by_order get_variable is reads by_reads refl refl (λ right. variable_input store.input)

  -- ---- registers, which stand in the store

  module _ (n : ℕ) (width : Width) (value : Rvalue) (next : NodeId) where
    abbrev to_register : NodeKind
    to_register = assignment (destination.Target (target.Register n width)) value next

    module _ (is : Stands to_register) (reads : ReadsAreLive c live a.procedure p.node to_register) (keeps : KeepsLive c live a.procedure p.node to_register) where
      register_cases : (x : Tried ℕ) → Does to_register is (assigns (target.Register n width) x)
      register_cases (Err e) right = absurd (cc)
      register_cases (Ok v) right = goes_on to_register is 0 0 next (record store { registers = slice_set store.registers n v }) a.variables h refl refl refl
          (keeps_values to_register is reads keeps next refl (0, omega arith, refl)) runs.framed

      register_steps : ValueIsByReads → IsStepDone
      register_steps by_values = done_by (step_is to_register is)
          (places_step_is to_register is
          ∙ ap (λ x. places_do to_register (assigns (target.Register n width) x)) (value_is (destination.Target (target.Register n width)) value next by_values reads))
          (register_cases (value_here (destination.Target (target.Register n width)) value next))

  module _ (n : ℕ) (width : Width) (next : NodeId) where
    abbrev get_register : NodeKind
    get_register = kind.Host (GetByte (target.Register n width)) next

    module _ (is : Stands get_register) (reads : ReadsAreLive c live a.procedure p.node get_register) (keeps : KeepsLive c live a.procedure p.node get_register) where
      register_input : (input : List ℕ) → Related s c live
          (record { store = assigned (target.Register n width) (next_byte input) (took Now input); controls = (graph_control c.graphs).on 0 Here ∷ ps })
          (onward s c 0 get_register (got s c (target.Register n width) (next_byte input) (record There { store = took There.store input })))
      register_input [] = goes_on get_register is 0 0 next (record store { registers = slice_set store.registers n (next_byte []) }) a.variables h refl refl refl
          (keeps_values get_register is reads keeps next refl (0, omega arith, refl)) runs.framed
      register_input (byte ∷ rest) =
          goes_on get_register is 0 0 next (record store { registers = slice_set store.registers n byte; input = rest; taken = store.taken ++ byte ∷ [] }) a.variables h refl refl refl
          (keeps_values get_register is reads keeps next refl (0, omega arith, refl)) runs.framed

      get_register_steps : OrderIsByReads → IsStepDone
      get_register_steps by_reads = by_order get_register is reads by_reads refl refl (λ right. register_input store.input)

  -- ---- any node that leads on

  module _ (by_reads : OrderIsByReads) (by_values : ValueIsByReads) (planned : IsPlanned c.plan) where
    pub node_steps : (node : NodeKind) → Stands node → ReadsAreLive c live a.procedure p.node node → KeepsLive c live a.procedure p.node node → leads_on node ≡ true →
        IsStepDone
    node_steps (kind.Assign (destination.Target (target.Variable n width)) value next) is reads keeps leads = variable_steps planned n width value next is reads keeps by_values
    node_steps (kind.Assign (destination.Target (target.Register n width)) value next) is reads keeps leads = register_steps n width value next is reads keeps by_values
    node_steps (kind.Assign (destination.Temporary t) value next) is reads keeps leads = temporary_steps planned t value next is reads keeps by_values
    node_steps (kind.Store width aligned address value next) is reads keeps leads = store_steps width aligned address value next is reads keeps by_reads
    node_steps (kind.Branch test then_ otherwise) is reads keeps leads = branch_steps test then_ otherwise is reads keeps by_reads
    node_steps (kind.Switch value arms otherwise) is reads keeps leads = switch_steps value arms otherwise is reads keeps by_reads
    node_steps (kind.Host (PutByte value) next) is reads keeps leads = put_byte_steps value next is reads keeps by_reads
    node_steps (kind.Host (GetByte (target.Variable n width)) next) is reads keeps leads = get_variable_steps planned n width next is reads keeps by_reads
    node_steps (kind.Host (GetByte (target.Register n width)) next) is reads keeps leads = get_register_steps n width next is reads keeps by_reads
    node_steps (kind.Goto next) is reads keeps leads = goto_steps next by_reads is reads keeps
    node_steps (kind.Entry formals next) is reads keeps leads = absurd (cc)
    node_steps (kind.CopyIn to next) is reads keeps leads = absurd (cc)
    node_steps (kind.Call site callee arguments exits) is reads keeps leads = absurd (cc)
    node_steps (kind.Yield site values exits) is reads keeps leads = absurd (cc)
    node_steps (kind.Jump callee arguments) is reads keeps leads = absurd (cc)
    node_steps (kind.Cut to arguments own) is reads keeps leads = absurd (cc)
    node_steps (kind.Return exit alternates results) is reads keeps leads = absurd (cc)
    node_steps kind.Stop is reads keeps leads = absurd (cc)
