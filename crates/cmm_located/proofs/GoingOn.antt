-- an activation that waited goes on: a CopyIn takes what control brings
use Rattle.std.proofs.Common.{◌≡◌, ◌≢◌, ◌⊎◌, inl, inr, ℕ, zero, suc, ◌-◌, ◌<◌, ◌≤◌, ◌==◌, nat_le, nat_lt, Bool, true, false, Contains, List, [], ◌∷◌, flat_map, map, length, slice_get, slice_index_or, slice_set, Ok, Option, Some, None, arith, refl, sym, ap, ◌∙◌, subst}
use Rattle.std.proofs.lemmas.Bool.Decides.{nat_tests}
use Rattle.std.proofs.lemmas.List.{get_or-set_same, get_or-set_other, length-set}
use Rattle.cmm_program.specs.declared.procedure.Target.{Target}
use Rattle.cmm_program.specs.declared.procedure.Target.TheVariants as target
use Rattle.cmm_program.specs.Control.{State, arrived, landed, over}
use Rattle.cmm_program.specs.Errors.{WrongValues, provided, with_some}
use Rattle.cmm_program.specs.Exits.{Landing, gone_on, land}
use Rattle.cmm_program.specs.Frames.{with_site}
use Rattle.cmm_program.specs.State.{Setting, Activation, Store, Running, Ended, StackLimit, stack_top}
use Rattle.cmm_machine_laws.specs.Landings.{registers_after, variables_after}
use Rattle.cmm_machine_laws.specs.Observed.{store_seen}
use Rattle.cmm_machine_laws.proofs.Shared.{targets_take}
use Rattle.cmm_graph.specs.declared.number.NodeId.{NodeId}
use Rattle.cmm_graph.specs.declared.operand.Local.TheVariants as local
use Rattle.cmm_graph.specs.declared.node.NodeKind.TheVariants.{CopyIn}
use Rattle.cmm_graph.specs.declared.graph.Graph.{Graph}
use Rattle.cmm_graph.specs.GraphControl.{Position, behind as behind_node, graph_control, kind_at, moved_to}
use Rattle.cmm_graph.specs.Paths.{written_to}
use Rattle.cmm_live.specs.Locals.{local_number}
use Rattle.cmm_chain.specs.Chain.{Suspension}
use Rattle.cmm_chain.specs.Contents.{Number}
use Rattle.cmm_chain.specs.Plans.{IsPlanned, Plan}
use Rattle.cmm_chain.specs.Running.{Holdings, HasValues, IsFramed, held, put_in}
use Rattle.cmm_chain.proofs.Shared.{others_stay, put_is_held, put_keeps_frame}
use Rattle.cmm_located.specs.Compiled.{Compiled, Located, bare}
use Rattle.cmm_located.specs.Entering.{IsWithinMost}
use Rattle.cmm_located.specs.LocatedMachine.{located_step, tried}
use Rattle.cmm_located.specs.Nodes.{ran_at, taken}
use Rattle.cmm_located.specs.Relation.{Liveness, AllWait, Related, suspensions, value_at, variable_count}
use Rattle.cmm_located.specs.Steps.{KeepsLive}
use Rattle.cmm_located.proofs.Following.{Moves, asks_none_at_copy}
use Rattle.cmm_located.proofs.Parts.{running}

-- ---- targets that are variables

abbrev pub Taken : List Target → ℕ → Type 0
Taken [] u = ⊥
Taken (target.Variable n width ∷ ts) u = (n ≡ u) ⊎ Taken ts u
Taken (target.Register n width ∷ ts) u = Taken ts u

-- they are what is written
taken_written : (ts : List Target) (v : ℕ) → Taken ts v → Contains (flat_map written_to ts) (local.Variable (record { number = v }))
taken_written [] v is = absurd is
taken_written (target.Variable n width ∷ ts) v (inl is) = (0, omega arith, ap (λ k. local.Variable (record { number = k })) is)
taken_written (target.Variable n width ∷ ts) v (inr is) = let rest = taken_written ts v is in (suc rest.0, omega (arith, rest.1), rest.2)
taken_written (target.Register n width ∷ ts) v is = taken_written ts v is

written_taken : (g : Graph) (ts : List Target) (u k : ℕ) → k < length (map (local_number g) (flat_map written_to ts)) →
    slice_index_or (map (local_number g) (flat_map written_to ts)) k u ≡ u → Taken ts u
written_taken g [] u k less is = absurd (omega arith)
written_taken g (target.Variable n width ∷ ts) u zero less is = inl is
written_taken g (target.Variable n width ∷ ts) u (suc k) less is = inr (written_taken g ts u k (omega arith) is)
written_taken g (target.Register n width ∷ ts) u k less is = written_taken g ts u k less is

-- ---- places that take values

module _ (plan : Plan) (q u : ℕ) where
  -- others take them
  taken_out : (ts : List Target) (values : List ℕ) (h : Holdings) → ((v : ℕ) → Taken ts v → plan.place q v ≢ plan.place q u) →
      held (taken plan q ts values h) (plan.place q u) ≡ held h (plan.place q u)
  taken_out [] values h apart = refl
  taken_out (t ∷ ts) [] h apart = refl
  taken_out (target.Variable n width ∷ ts) (x ∷ values) h apart =
      taken_out ts values (put_in (plan.place q n) (Number x) h) (λ v is. apart v (inr is))
      ∙ others_stay (plan.place q n) (plan.place q u) (Number x) h (apart n (inl refl))
  taken_out (target.Register n width ∷ ts) (x ∷ values) h apart = taken_out ts values h apart

  -- the place of a variable holds its value after that
  taken_holds : (ts : List Target) (values : List ℕ) (h : Holdings) (xs : List ℕ) → length ts ≡ length values → u < length xs →
      ((v : ℕ) → Taken ts v → u ≢ v → plan.place q v ≢ plan.place q u) → ((Taken ts u → ⊥) → held h (plan.place q u) ≡ Number (slice_index_or xs u 0)) →
      held (taken plan q ts values h) (plan.place q u) ≡ Number (slice_index_or (variables_after ts values xs) u 0)
  taken_holds [] values h xs same less apart holds = holds (λ is. is)
  taken_holds (t ∷ ts) [] h xs same less apart holds = absurd (omega arith)
  taken_holds (target.Variable n width ∷ ts) (x ∷ values) h xs same less apart holds =
      taken_holds ts values (put_in (plan.place q n) (Number x) h) (slice_set xs n x) (omega arith) (omega (arith, length-set xs n x))
      (λ v is. apart v (inr is)) (λ none. by (n == u) refl none)
    where
      by : (b : Bool) → (n == u) ≡ b → (Taken ts u → ⊥) → held (put_in (plan.place q n) (Number x) h) (plan.place q u) ≡ Number (slice_index_or (slice_set xs n x) u 0)
      by true is none =
          let here : n ≡ u = grind (arith, nat_tests, is) in
          let set_here : slice_index_or (slice_set xs n x) u 0 ≡ x = grind (arith, get_or-set_same xs n x 0) in
          subst (λ w. held (put_in (plan.place q n) (Number x) h) (plan.place q w) ≡ Number x) here (put_is_held (plan.place q n) (Number x) h) ∙ ap Number (sym set_here)
      by false is none =
          let other : u ≢ n = grind (arith, nat_tests, is) in
          let set_other : slice_index_or (slice_set xs n x) u 0 ≡ slice_index_or xs u 0 = grind (arith, get_or-set_other xs n u x 0) in
          others_stay (plan.place q n) (plan.place q u) (Number x) h (apart n (inl refl) other)
          ∙ (holds (λ taken_. elim taken_ [ inl here ↦ other (sym here) | inr later ↦ none later ])
          ∙ ap Number (sym set_other))
  taken_holds (target.Register n width ∷ ts) (x ∷ values) h xs same less apart holds = taken_holds ts values h xs (omega arith) less apart holds

-- the frame stays
taken_framed : (plan : Plan) (q top : ℕ) (older : List Suspension) (planned : IsPlanned plan) (exists : plan.is_procedure q ≡ true) (ts : List Target) (values : List ℕ)
    (h : Holdings) → IsFramed plan top q older h → IsFramed plan top q older (taken plan q ts values h)
taken_framed plan q top older planned exists [] values h framed = framed
taken_framed plan q top older planned exists (t ∷ ts) [] h framed = framed
taken_framed plan q top older planned exists (target.Variable n width ∷ ts) (x ∷ values) h framed =
    taken_framed plan q top older planned exists ts values (put_in (plan.place q n) (Number x) h)
    (put_keeps_frame plan top q older h (plan.place q n) (Number x) (planned.places q n exists) (planned.laid q exists) framed)
taken_framed plan q top older planned exists (target.Register n width ∷ ts) (x ∷ values) h framed = taken_framed plan q top older planned exists ts values h framed

variables_count : (ts : List Target) (values xs : List ℕ) → length (variables_after ts values xs) ≡ length xs
variables_count [] values xs = refl
variables_count (t ∷ ts) [] xs = refl
variables_count (target.Variable n width ∷ ts) (x ∷ values) xs = variables_count ts values (slice_set xs n x) ∙ length-set xs n x
variables_count (target.Register n width ∷ ts) (x ∷ values) xs = variables_count ts values xs

-- ---- the CopyIn

module _ (s : Setting) (c : Compiled) (live : Liveness) (planned : IsPlanned c.plan) (store : Store) (f : Activation) (older : List Activation) (p : Position)
    (ps : List Position) (h : Holdings) (to : List Target) (n next : NodeId) (is_copy : kind_at c.graphs f.procedure n ≡ CopyIn to next) (g : Graph)
    (is_graph : slice_get c.graphs f.procedure ≡ Some g) (keeps : KeepsLive c live f.procedure n (CopyIn to next)) (values : List ℕ)
    (count : length to ≡ length values) (exists : c.plan.is_procedure f.procedure ≡ true) (variables : length f.variables ≡ variable_count c.graphs f.procedure)
    (holds : (u : ℕ) → live f.procedure n u ≡ true → held h (c.plan.place f.procedure u) ≡ Number (value_at c.graphs f p u))
    (framed : IsFramed c.plan (stack_top s) f.procedure (suspensions c.graphs older ps) h) (waits : AllWait c.graphs older ps) where
  -- control has come to the CopyIn
  abbrev pub Lands : Located
  Lands = record {
    store = running store (with_site None (map bare (f ∷ older)));
    holdings = h;
    procedure = f.procedure;
    node = n;
    carried = values;
  }

  abbrev pub gone_state : State Position
  gone_state = record {
    store = running (record store { registers = registers_after to values store.registers }) (record f { variables = variables_after to values f.variables; site = None } ∷ older);
    controls = record p { procedure = f.procedure; node = next } ∷ ps;
  }

  abbrev Copied : Located
  Copied = record {
    store = record Lands.store { registers = registers_after to values store.registers };
    holdings = taken c.plan f.procedure to values h;
    procedure = f.procedure;
    node = next;
    carried = [];
  }

  pub step_copies : located_step s c Lands ≡ Copied
  step_copies =
      let enough : nat_le (length to) (length values) ≡ true = grind (arith, nat_tests, count) in
      ap (λ node. tried s c Lands (ran_at s c node Lands)) is_copy ∙ ap (λ b. tried s c Lands (provided b WrongValues (Ok Copied))) enough

  -- what a temporary of this number holds
  abbrev value_past : ℕ → ℕ
  value_past u = p.temporaries (record { number = u - variable_count c.graphs f.procedure })

  abbrev leads : Contains (next ∷ []) next
  leads = (0, omega arith, refl)

  count_is : variable_count c.graphs f.procedure ≡ g.variables
  count_is = ap (λ o. elim o as (λ _. ℕ) [ Some g ↦ g.variables | None ↦ 0 ]) is_graph

  apart : (u v : ℕ) → live f.procedure next u ≡ true → Taken to v → u ≢ v → c.plan.place f.procedure v ≢ c.plan.place f.procedure u
  apart u v is_live is other = keeps.apart g next u (local.Variable (record { number = v })) is_graph leads is_live (taken_written to v is) other

  below : (v : ℕ) → Taken to v → v < variable_count c.graphs f.procedure
  below v is =
      let under : nat_lt v g.variables ≡ true = keeps.written g (local.Variable (record { number = v })) is_graph (taken_written to v is) in
      let less : v < g.variables = grind (arith, nat_tests, under) in omega (arith, count_is)

  held_before : (u : ℕ) → live f.procedure next u ≡ true → (Taken to u → ⊥) → held h (c.plan.place f.procedure u) ≡ Number (value_at c.graphs f p u)
  held_before u is_live none =
      holds u (keeps.unwritten g next u is_graph leads is_live (λ found. none (written_taken g to u found.0 found.1 found.2)))

  copied_values : HasValues c.plan f.procedure (taken c.plan f.procedure to values h) (live f.procedure next)
      (value_at c.graphs (record f { variables = variables_after to values f.variables; site = None }) p)
  copied_values u is_live = by (nat_lt u (variable_count c.graphs f.procedure)) refl
    where
      by : (b : Bool) → nat_lt u (variable_count c.graphs f.procedure) ≡ b → held (taken c.plan f.procedure to values h) (c.plan.place f.procedure u)
          ≡ Number (value_at c.graphs (record f { variables = variables_after to values f.variables; site = None }) p u)
      by true is =
          let less : u < length f.variables = (let under : u < variable_count c.graphs f.procedure = grind (arith, nat_tests, is) in omega arith) in
          taken_holds c.plan f.procedure u to values h f.variables count less (λ v is. apart u v is_live is)
          (λ none. held_before u is_live none ∙ ap (λ b. Number (elim b as (λ _. ℕ) [ true ↦ slice_index_or f.variables u 0 | false ↦ value_past u ])) is)
          ∙ ap (λ b. Number (elim b as (λ _. ℕ) [ true ↦ slice_index_or (variables_after to values f.variables) u 0 | false ↦ value_past u ])) (sym is)
      by false is =
          let past : variable_count c.graphs f.procedure ≤ u = grind (arith, nat_tests, is) in
          let fresh = λ (v : ℕ) (is : Taken to v). (let under = below v is in let other : u ≢ v = omega arith in other) in
          taken_out c.plan f.procedure u to values h (λ v is. apart u v is_live is (fresh v is))
          ∙ (held_before u is_live (λ is. fresh u is refl)
          ∙ (ap (λ b. Number (elim b as (λ _. ℕ) [ true ↦ slice_index_or f.variables u 0 | false ↦ value_past u ])) is
          ∙ ap (λ b. Number (elim b as (λ _. ℕ) [ true ↦ slice_index_or (variables_after to values f.variables) u 0 | false ↦ value_past u ])) (sym is)))

  -- it goes on behind the CopyIn
  pub goes_behind : Related s c live gone_state (located_step s c Lands)
  goes_behind = subst (λ y. Related s c live gone_state y) (sym step_copies) record {
    store = refl;
    stands = record {
      ghosts = refl;
      procedure = refl;
      same = refl;
      node = refl;
      exists = exists;
      variables = variables_count to values f.variables ∙ variables;
      values = copied_values;
      framed = taken_framed c.plan f.procedure (stack_top s) (suspensions c.graphs older ps) planned exists to values h framed;
      waits = waits;
    };
  }

  -- ---- the step of the machine over graphs

  -- it comes there by two steps over locations
  pub lands_moves : (most : ℕ) → IsWithinMost c most → (before after : State Position) (here : Located) → store_seen (running store older) ≡ store_seen before.store →
      after ≡ gone_state → here ≡ Lands → Moves s c live most before after here
  lands_moves most is_most before after here same is goes = record {
    first = Lands;
    goes = goes;
    running = refl;
    silent = same;
    shows = ap (λ (x : Located). store_seen x.store) step_copies ∙ same;
    asks = asks_none_at_copy s c Lands to next is_copy refl;
    related = subst (λ st. Related s c live st (located_step s c Lands)) (sym is) goes_behind;
    within = is_most record { procedure = f.procedure; node = n; temporaries = λ t. 0 };
  }

  -- where the machine over graphs lands
  pub landing_goes : (landing : Landing) (move : Position → Position) → land s landing (record store { activations = f ∷ older }) ≡ Some (gone_on to values (record store { activations = f ∷ older })) →
      arrived (graph_control c.graphs) landing (p ∷ ps) ≡ move p ∷ ps → move p ≡ record p { procedure = f.procedure; node = next } →
      landed (graph_control c.graphs) s landing (record store { activations = f ∷ older }) (p ∷ ps) ≡ gone_state
  landing_goes landing move lands arrives moves =
      ap (λ (o : Option Store). elim o as (λ _. State Position) [
        | Some after ↦ record { store = over Running after; controls = arrived (graph_control c.graphs) landing (p ∷ ps) }
        | None ↦ record { store = over (Ended StackLimit) (record store { activations = f ∷ older }); controls = p ∷ ps }
      ]) lands
      ∙ (ap (λ (after : Store). record { store = over Running after; controls = arrived (graph_control c.graphs) landing (p ∷ ps) })
      (targets_take to values (record store { activations = f ∷ older }) f older refl)
      ∙ ap (λ (cs : List Position). record { store = gone_state.store; controls = cs }) (arrives ∙ ap (λ (m : Position). m ∷ ps) moves))

  pub moves_behind : p.procedure ≡ f.procedure → (o : Option NodeId) → o ≡ Some n →
      moved_to (with_some o (λ m. Some (behind_node (kind_at c.graphs p.procedure m) m))) p ≡ record p { procedure = f.procedure; node = next }
  moves_behind same o is =
      ap (λ o. moved_to (with_some o (λ m. Some (behind_node (kind_at c.graphs p.procedure m) m))) p) is
      ∙ (ap (λ r. moved_to (Some (behind_node (kind_at c.graphs r n) n)) (record p { procedure = r })) same
      ∙ ap (λ node. moved_to (Some (behind_node node n)) (record p { procedure = f.procedure })) is_copy)
