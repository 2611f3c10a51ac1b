-- a procedure is entered over locations as over graphs
use Rattle.std.proofs.Common.{◌≡◌, ◌≢◌, ◌⊎◌, inl, inr, ℕ, zero, suc, ◌+◌, ◌-◌, ◌<◌, ◌≤◌, nat_lt, Bool, true, false, Contains, List, [], ◌∷◌, ◌++◌, drop, map, length, nat_le, slice_index_or, Ok, Option, Some, None, arith, refl, sym, ap, ◌∙◌, subst}
use Rattle.std.specs.List.{range_with_len}
use Rattle.std.proofs.lemmas.Bool.Decides.{nat_tests}
use Rattle.std.proofs.lemmas.List.{length-append, length-map}
use Rattle.std.proofs.lemmas.List.FromFn.{length-range_with_len}
use Rattle.std.proofs.lemmas.List.Sums.{sum_by-cons}
use Rattle.std.proofs.Math.ListN.{length-drop}
use Rattle.cmm_program.specs.declared.procedure.Proc.{Proc}
use Rattle.cmm_program.specs.declared.procedure.VarInfo.{VarInfo}
use Rattle.cmm_program.specs.Control.{State, arrived, landed, over}
use Rattle.cmm_program.specs.Errors.{WrongValues, provided, with_some}
use Rattle.cmm_program.specs.Exits.{Instead, Landing, begun, land}
use Rattle.cmm_program.specs.Frames.{fits_stack, frame_size, new_activation, place_row, procedure_at, room_of, sum_of_sizes}
use Rattle.cmm_program.specs.Machine.{first_store}
use Rattle.cmm_program.specs.Memory.{Room}
use Rattle.cmm_program.specs.State.{Setting, Activation, Store, Running, Ended, StackLimit, stack_top}
use Rattle.cmm_machine_laws.specs.Landings.{begun_above}
use Rattle.cmm_machine_laws.specs.Observed.{event_at, store_seen}
use Rattle.cmm_machine_laws.proofs.Shared.{entering_lands}
use Rattle.cmm_graph.specs.declared.number.NodeId.{NodeId}
use Rattle.cmm_graph.specs.declared.number.Variable.{Variable}
use Rattle.cmm_graph.specs.Acting.{act_of}
use Rattle.cmm_graph.specs.GraphControl.{Position, behind, graph_control, kind_at, moved_to}
use Rattle.cmm_graph.specs.GraphMachine.{graph_start}
use Rattle.cmm_chain.specs.declared.frame.Location.{Location}
use Rattle.cmm_chain.specs.declared.frame.Location.TheVariants.{Slot, Saved, Temp}
use Rattle.cmm_chain.specs.Chain.{IsChain, Suspension}
use Rattle.cmm_chain.specs.Contents.{LastReturn, Number}
use Rattle.cmm_chain.specs.Plans.{IsPlanned, Plan}
use Rattle.cmm_chain.specs.Running as running_
use Rattle.cmm_chain.specs.Running.{Holdings, HasValues, IsFramed, held, put_in}
use Rattle.cmm_chain.proofs.Shared.{entered_is_framed, frames_reach_top, others_stay, put_is_held, put_keeps_frame}
use Rattle.cmm_located.specs.Answering.{shown}
use Rattle.cmm_located.specs.Compiled.{Compiled, Located, bare}
use Rattle.cmm_located.specs.LocatedMachine.{located_start, located_step, tried}
use Rattle.cmm_located.specs.Nodes.{keeping, passed_to, ran_at, zeros_in}
use Rattle.cmm_located.specs.Relation.{Liveness, AllWait, Related, suspensions, value_at, variable_count}
use Rattle.cmm_located.specs.SameOrders.{HasFrames}
use Rattle.cmm_located.specs.Entering.{HasEntry, ProceduresAreEntered, RunsBeginAlike}
use Rattle.cmm_located.proofs.Ordering.{same_sizes}
use Rattle.cmm_located.proofs.Parts.{running}

-- ---- activations without their values

pub bare_twice : (activations : List Activation) → map bare (map bare activations) ≡ map bare activations
bare_twice [] = refl
bare_twice (a ∷ older) = ap (λ l. bare a ∷ l) (bare_twice older)

pub bare_sizes : (s : Setting) (activations : List Activation) → sum_of_sizes s (map bare activations) ≡ sum_of_sizes s activations
bare_sizes s [] = refl
bare_sizes s (a ∷ older) =
    let rest = bare_sizes s older in omega (arith, sum_by-cons (frame_size s) (bare a) (map bare older), sum_by-cons (frame_size s) a older, rest)

-- ---- values that are put into places

-- a place that holds 0 still does when others are made 0
zero_stays : (l other : Location) (h : Holdings) → held h other ≡ Number 0 → held (put_in l (Number 0) h) other ≡ Number 0
zero_stays (Slot a) (Slot b) h is = grind (arith, nat_tests, is)
zero_stays (Saved a) (Saved b) h is = grind (arith, nat_tests, is)
zero_stays (Temp a) (Temp b) h is = grind (arith, nat_tests, is)
zero_stays (Slot a) (Saved b) h is = is
zero_stays (Slot a) (Temp b) h is = is
zero_stays (Saved a) (Slot b) h is = is
zero_stays (Saved a) (Temp b) h is = is
zero_stays (Temp a) (Slot b) h is = is
zero_stays (Temp a) (Saved b) h is = is

module _ (plan : Plan) (q : ℕ) where
  zeros_stay : (vs : List ℕ) (l : Location) (h : Holdings) → held h l ≡ Number 0 → held (zeros_in plan q vs h) l ≡ Number 0
  zeros_stay [] l h is = is
  zeros_stay (v ∷ vs) l h is = zeros_stay vs l (put_in (plan.place q v) (Number 0) h) (zero_stays (plan.place q v) l h is)

  -- each of them holds 0
  zeros_hold : (vs : List ℕ) (u : ℕ) (h : Holdings) (k : ℕ) → k < length vs → slice_index_or vs k u ≡ u → held (zeros_in plan q vs h) (plan.place q u) ≡ Number 0
  zeros_hold [] u h k less is = absurd (omega arith)
  zeros_hold (v ∷ vs) u h zero less is =
      zeros_stay vs (plan.place q u) (put_in (plan.place q v) (Number 0) h)
      (subst (λ w. held (put_in (plan.place q v) (Number 0) h) (plan.place q w) ≡ Number 0) is (put_is_held (plan.place q v) (Number 0) h))
  zeros_hold (v ∷ vs) u h (suc k) less is = zeros_hold vs u (put_in (plan.place q v) (Number 0) h) k (omega arith) is

  -- arguments are passed to others
  passed_out : (k : ℕ) (xs : List ℕ) (u : ℕ) (h : Holdings) → ((v : ℕ) → k ≤ v → v < k + length xs → plan.place q v ≢ plan.place q u) →
      held (passed_to plan q (range_with_len k (length xs)) xs h) (plan.place q u) ≡ held h (plan.place q u)
  passed_out k [] u h apart = refl
  passed_out k (x ∷ xs) u h apart =
      passed_out (k + 1) xs u (put_in (plan.place q k) (Number x) h) (λ v le less. apart v (omega arith) (omega arith))
      ∙ others_stay (plan.place q k) (plan.place q u) (Number x) h (apart k (omega arith) (omega arith))

  -- one of them is passed to this one
  passed_in : (k : ℕ) (xs : List ℕ) (u i : ℕ) (h : Holdings) → u ≡ k + i → i < length xs → ((v : ℕ) → v < k + length xs → u ≢ v → plan.place q v ≢ plan.place q u) →
      held (passed_to plan q (range_with_len k (length xs)) xs h) (plan.place q u) ≡ Number (slice_index_or xs i 0)
  passed_in k [] u i h at less apart = absurd (omega arith)
  passed_in k (x ∷ xs) u zero h at less apart =
      let here : u ≡ k = omega arith in
      passed_out (k + 1) xs u (put_in (plan.place q k) (Number x) h) (λ v le less. apart v (omega arith) (omega arith))
      ∙ subst (λ w. held (put_in (plan.place q k) (Number x) h) (plan.place q w) ≡ Number x) (sym here) (put_is_held (plan.place q k) (Number x) h)
  passed_in k (x ∷ xs) u (suc i) h at less apart =
      passed_in (k + 1) xs u i (put_in (plan.place q k) (Number x) h) (omega arith) (omega arith) (λ v less. apart v (omega arith))

  -- the frame stays
  module _ (top : ℕ) (older : List Suspension) (planned : IsPlanned plan) (exists : plan.is_procedure q ≡ true) where
    zeros_framed : (vs : List ℕ) (h : Holdings) → IsFramed plan top q older h → IsFramed plan top q older (zeros_in plan q vs h)
    zeros_framed [] h framed = framed
    zeros_framed (v ∷ vs) h framed = zeros_framed vs (put_in (plan.place q v) (Number 0) h)
        (put_keeps_frame plan top q older h (plan.place q v) (Number 0) (planned.places q v exists) (planned.laid q exists) framed)

    passed_framed : (vs xs : List ℕ) (h : Holdings) → IsFramed plan top q older h → IsFramed plan top q older (passed_to plan q vs xs h)
    passed_framed [] xs h framed = framed
    passed_framed (v ∷ vs) [] h framed = framed
    passed_framed (v ∷ vs) (x ∷ xs) h framed = passed_framed vs xs (put_in (plan.place q v) (Number x) h)
        (put_keeps_frame plan top q older h (plan.place q v) (Number x) (planned.places q v exists) (planned.laid q exists) framed)

-- ---- arguments, and zeros behind them

abbrev no_number : ℕ
no_number = 0

abbrev no_value : VarInfo → ℕ
no_value v = 0

among : (values : List ℕ) (vars : List VarInfo) (u : ℕ) → u < length values → slice_index_or (values ++ map no_value vars) u 0 ≡ slice_index_or values u 0
among [] vars u less = absurd (omega arith)
among (x ∷ values) vars zero less = refl
among (x ∷ values) vars (suc u) less = among values vars u (omega arith)

behind_zero : (vars : List VarInfo) (u : ℕ) → slice_index_or (map no_value vars) u 0 ≡ no_number
behind_zero [] u = refl
behind_zero (v ∷ vars) zero = refl
behind_zero (v ∷ vars) (suc u) = behind_zero vars u

behind_all : (values : List ℕ) (vars : List VarInfo) (u : ℕ) → length values ≤ u → slice_index_or (values ++ map no_value vars) u 0 ≡ no_number
behind_all [] vars u le = behind_zero vars u
behind_all (x ∷ values) vars zero le = absurd (omega arith)
behind_all (x ∷ values) vars (suc u) le = behind_all values vars u (omega arith)

fits_alike : (base size at older room : ℕ) → at + older ≡ base + room → nat_le (base + size) at ≡ nat_le (size + older) room
fits_alike base size at older room is = grind (arith, nat_tests)

-- ---- the Entry

module _ (s : Setting) (c : Compiled) (live : Liveness) (frames : HasFrames s c) (planned : IsPlanned c.plan) (q : ℕ) (p : Proc) (values : List ℕ) (store : Store)
    (older : List Activation) (ps before : List Position) (h : Holdings) (is_p : procedure_at s q ≡ Some p) (entry : HasEntry c live q p)
    (count : length values ≡ p.formals) (chain : IsChain c.plan (stack_top s) h.contents (suspensions c.graphs older ps) h.point) (waits : AllWait c.graphs older ps) where
  -- control has come to the Entry
  abbrev pub Enters : Located
  Enters = record { store = running store (map bare older); holdings = h; procedure = q; node = entry.first; carried = values }

  abbrev New : Activation
  New = new_activation q p values

  abbrev begun_store : Store
  begun_store = over Running (begun s q p values older (running store older))

  -- where an activation begins, if the stack has room for it
  abbrev pub begun_state : Bool → State Position
  begun_state fits = elim fits as (λ _. State Position) [
    | true ↦ record { store = begun_store; controls = (graph_control c.graphs).begin q ∷ ps }
    | false ↦ record { store = over (Ended StackLimit) store; controls = before }
  ]

  -- ---- over locations

  abbrev zeroed : Holdings
  zeroed = zeros_in c.plan q (c.zeroed q) (running_.entered c.plan q h.point h.contents)

  abbrev formal_numbers : List ℕ
  formal_numbers = range_with_len 0 (length values)

  abbrev passed : Holdings
  passed = passed_to c.plan q formal_numbers values zeroed

  abbrev room_at : ℕ → Room
  room_at frame = room_of frame p (place_row s q)

  -- after the Entry, if the stack has room
  abbrev there_with : Option Proc → List ℕ → Bool → Located
  there_with o ns fits = elim fits as (λ _. Located) [
    | true ↦ record {
      store = elim o as (λ _. Store) [
        | Some p ↦ let after = begun s q p [] (map bare older) Enters.store in record after { activations = map bare after.activations }
        | None ↦ Enters.store
      ];
      holdings = passed_to c.plan q ns values zeroed;
      procedure = q;
      node = entry.next;
      carried = [];
    }
    | false ↦ record Enters { store = over (Ended StackLimit) Enters.store }
  ]

  numbers_are : map (λ (v : Variable). v.number) entry.formals ≡ formal_numbers
  numbers_are = entry.numbered ∙ ap (λ n. range_with_len 0 n) (sym count)

  abbrev fits_there : Bool
  fits_there = nat_le (s.stack_base + (c.plan.frame q).size) h.point.at

  -- control brings a value for each formal
  enough : nat_le (length entry.formals) (length values) ≡ true
  enough =
      let many : length entry.formals ≡ p.formals =
      sym (length-map entry.formals (λ v. v.number)) ∙ (ap (λ (ns : List ℕ). length ns) entry.numbered ∙ length-range_with_len 0 p.formals) in
      grind (arith, nat_tests, many, count)

  abbrev entered_with : Option Proc → Bool → Located
  entered_with o b = tried s c Enters (provided b WrongValues (Ok (there_with o (map (λ (v : Variable). v.number) entry.formals) fits_there)))

  step_there : located_step s c Enters ≡ there_with (Some p) formal_numbers fits_there
  step_there =
      ap (λ node. tried s c Enters (ran_at s c node Enters)) entry.is_entry
      ∙ (ap (λ b. entered_with (procedure_at s q) b) enough
      ∙ (ap (λ o. there_with o (map (λ (v : Variable). v.number) entry.formals) fits_there) is_p
      ∙ ap (λ ns. there_with (Some p) ns fits_there) numbers_are))

  -- ---- what it comes to

  abbrev Begins : Position
  Begins = record { procedure = q; node = entry.next; temporaries = λ t. 0 }

  begins_is : (graph_control c.graphs).begin q ≡ Begins
  begins_is =
      let from : Position = record { procedure = q; node = record { number = 0 }; temporaries = λ t. 0 } in
      ap (λ o. moved_to (with_some o (λ n. Some (behind (kind_at c.graphs q n) n))) from) entry.is_first
      ∙ ap (λ node. moved_to (Some (behind node entry.first)) from) entry.is_entry

  same_size : sum_of_sizes s (new_activation q p [] ∷ map bare older) ≡ sum_of_sizes s (New ∷ older)
  same_size =
      let rest = bare_sizes s older in
      omega (arith, sum_by-cons (frame_size s) (new_activation q p []) (map bare older), sum_by-cons (frame_size s) New older, rest)

  reach : h.point.at + sum_of_sizes s older ≡ stack_top s
  reach =
      let top = frames_reach_top c.plan (stack_top s) h.contents (suspensions c.graphs older ps) h.point chain in
      let sizes = same_sizes s c frames (stack_top s) h.contents older ps h.point waits chain in
      omega (arith, top, sizes)

  fits_is : fits_there ≡ fits_stack s (New ∷ older)
  fits_is =
      ap (λ n. nat_le (s.stack_base + n) h.point.at) (frames.size q entry.exists)
      ∙ (fits_alike s.stack_base (place_row s q).frame h.point.at (sum_of_sizes s older) s.stack_size reach
      ∙ ap (λ n. nat_le n s.stack_size) (sym (sum_by-cons (frame_size s) New older)))

  -- what is no formal begins as 0, variable or temporary
  zero_value : (u : ℕ) → length values ≤ u → (b : Bool) → elim b as (λ _. ℕ) [ true ↦ slice_index_or New.variables u 0 | false ↦ 0 ] ≡ 0
  zero_value u past true = behind_all values (drop (length values) p.vars) u past
  zero_value u past false = refl

  passed_values : HasValues c.plan q passed (live q entry.next) (value_at c.graphs New Begins)
  passed_values u is = by (nat_lt u p.formals) refl (entry.known u is)
    where
      by : (b : Bool) → nat_lt u p.formals ≡ b → (u < p.formals) ⊎ Contains (c.zeroed q) u → held passed (c.plan.place q u) ≡ Number (value_at c.graphs New Begins u)
      by true less known =
          let formal : u < p.formals = grind (arith, nat_tests, less) in
          let under : u < length values = omega arith in
          let is_variable : nat_lt u (variable_count c.graphs q) ≡ true =
          (let within : u < variable_count c.graphs q = omega (arith, formal, entry.variables, entry.formals_are_variables) in grind (arith, nat_tests)) in
          passed_in c.plan q 0 values u u zeroed (omega arith) under (λ v below other. entry.apart u v is (omega arith) other)
          ∙ (ap Number (sym (among values (drop (length values) p.vars) u under))
          ∙ ap Number (sym (ap (λ b. elim b as (λ _. ℕ) [ true ↦ slice_index_or New.variables u 0 | false ↦ 0 ]) is_variable)))
      by false less (inl formal) = absurd (grind (arith, nat_tests, less, formal))
      by false less (inr listed) =
          let past : length values ≤ u = (let none : p.formals ≤ u = grind (arith, nat_tests, less) in omega arith) in
          passed_out c.plan q 0 values u zeroed (λ v le below. entry.apart u v is (omega arith) (omega arith))
          ∙ (zeros_hold c.plan q (c.zeroed q) u (running_.entered c.plan q h.point h.contents) listed.0 listed.1 listed.2
          ∙ ap Number (sym (zero_value u past (nat_lt u (variable_count c.graphs q)))))

  passed_is_framed : fits_there ≡ true → IsFramed c.plan (stack_top s) q (suspensions c.graphs older ps) passed
  passed_is_framed fits =
      let room : (c.plan.frame q).size ≤ h.point.at = (let all : s.stack_base + (c.plan.frame q).size ≤ h.point.at = grind (arith, nat_tests, fits) in omega arith) in
      passed_framed c.plan q (stack_top s) (suspensions c.graphs older ps) planned entry.exists formal_numbers values zeroed
      (zeros_framed c.plan q (stack_top s) (suspensions c.graphs older ps) planned entry.exists (c.zeroed q) (running_.entered c.plan q h.point h.contents)
      (entered_is_framed c.plan (stack_top s) q (suspensions c.graphs older ps) h.point h.contents (planned.laid q entry.exists) room chain))

  count_is : length New.variables ≡ variable_count c.graphs q
  count_is =
      let whole = length-append values (map no_value (drop (length values) p.vars)) in
      let zeros = length-map (drop (length values) p.vars) no_value in
      let rest = length-drop (length values) p.vars in
      omega (arith, whole, zeros, rest, entry.variables, entry.formals_are_variables, count)

  abbrev begun_with : Position → State Position
  begun_with first = record { store = begun_store; controls = first ∷ ps }

  abbrev store_shown : Store
  store_shown = running store older

  -- the activation begins
  begun_related : fits_there ≡ true → Related s c live (begun_state true) (there_with (Some p) formal_numbers true)
  begun_related fits = subst (λ first. Related s c live (begun_with first) (there_with (Some p) formal_numbers true)) (sym begins_is) record {
    store = ap (λ n. record (running store (map bare (new_activation q p [] ∷ map bare older))) {
      memory = record store.memory { rooms = room_at (stack_top s - n) ∷ store.memory.rooms };
    }) same_size;
    stands = record {
      ghosts = ap (λ l. bare (new_activation q p []) ∷ l) (bare_twice older);
      procedure = refl;
      same = refl;
      node = refl;
      exists = entry.exists;
      variables = count_is;
      values = passed_values;
      framed = passed_is_framed fits;
      waits = waits;
    };
  }

  entered_related : (fits : Bool) → fits_there ≡ fits → Related s c live (begun_state fits) (there_with (Some p) formal_numbers fits)
  entered_related true fits = begun_related fits
  entered_related false fits = record { store = refl; stands = tt }

  -- the procedure is entered, or the stack has no room for it
  pub enters : Related s c live (begun_state (fits_stack s (New ∷ older))) (located_step s c Enters)
  enters =
      subst (λ y. Related s c live (begun_state (fits_stack s (New ∷ older))) y) (sym step_there)
      (subst (λ b. Related s c live (begun_state b) (there_with (Some p) formal_numbers fits_there)) fits_is (entered_related fits_there refl))

  -- nothing is shown
  silent_with : (fits : Bool) → store_seen (there_with (Some p) formal_numbers fits).store ≡ store_seen store_shown
  silent_with true = refl
  silent_with false = refl

  pub enters_silently : store_seen (located_step s c Enters).store ≡ store_seen store_shown
  enters_silently = ap (λ (x : Located). store_seen x.store) step_there ∙ silent_with fits_there

  pub asks_nothing : event_at s Running (shown s c Enters) (act_of (keeping s c Enters) (kind_at c.graphs q entry.first)) ≡ None
  asks_nothing = ap (λ node. event_at s Running (shown s c Enters) (act_of (keeping s c Enters) node)) entry.is_entry

-- ---- by the landing

or_else : {A B : Type 0} (b : Bool) (x : A) (f : A → B) (z : B) →
    elim (elim b as (λ _. Option A) [ true ↦ Some x | false ↦ None ]) as (λ _. B) [ Some a ↦ f a | None ↦ z ] ≡ elim b as (λ _. B) [ true ↦ f x | false ↦ z ]
or_else true x f z = refl
or_else false x f z = refl

-- what a landing makes of a new activation
pub landing_is : (s : Setting) (c : Compiled) (q : ℕ) (p : Proc) (values : List ℕ) (store : Store) (older : List Activation) (landing : Landing) (ps before : List Position) →
    land s landing store ≡ begun_above s store q p values older → arrived (graph_control c.graphs) landing before ≡ (graph_control c.graphs).begin q ∷ ps →
    landed (graph_control c.graphs) s landing store before ≡ elim (fits_stack s (new_activation q p values ∷ older)) as (λ _. State Position) [
      | true ↦ record { store = over Running (begun s q p values older store); controls = (graph_control c.graphs).begin q ∷ ps }
      | false ↦ record { store = over (Ended StackLimit) store; controls = before }
    ]
landing_is s c q p values store older landing ps before lands arrives =
    ap (λ o. elim o as (λ _. State Position) [
      | Some after ↦ record { store = over Running after; controls = arrived (graph_control c.graphs) landing before }
      | None ↦ record { store = over (Ended StackLimit) store; controls = before }
    ]) lands
    ∙ (or_else (fits_stack s (new_activation q p values ∷ older)) (begun s q p values older store)
    (λ (after : Store). record { store = over Running after; controls = arrived (graph_control c.graphs) landing before })
    (record { store = over (Ended StackLimit) store; controls = before })
    ∙ ap (λ cs. elim (fits_stack s (new_activation q p values ∷ older)) as (λ _. State Position) [
      | true ↦ record { store = over Running (begun s q p values older store); controls = cs }
      | false ↦ record { store = over (Ended StackLimit) store; controls = before }
    ]) arrives)

pub procedures_are_entered : ProceduresAreEntered
procedures_are_entered s c live q p values store older ps h frames planned is_p entry count chain waits =
    let now : Store = running store older in
    subst (λ st. Related s c live st (located_step s c (Enters s c live frames planned q p values now older ps ps h is_p entry count chain waits)))
    (sym (landing_is s c q p values now older (Instead q values) ps ps (entering_lands s now q p values is_p).1 refl))
    (enters s c live frames planned q p values now older ps ps h is_p entry count chain waits)

-- ---- the start

pub runs_begin_alike : RunsBeginAlike
runs_begin_alike s c live p input frames planned is_p no_formals entry =
    let begins : Holdings = record {
      point = record { at = stack_top s; back = LastReturn; kept = running_.none_known };
      temps = running_.none_known;
      contents = running_.none_known;
    } in
    let same : located_start s c input ≡ record {
      store = first_store s input;
      holdings = begins;
      procedure = s.program.main;
      node = entry.first;
      carried = [];
    } = ap (λ (o : Option NodeId). record {
      store = first_store s input;
      holdings = begins;
      procedure = s.program.main;
      node = elim o as (λ _. NodeId) [ Some n ↦ n | None ↦ record { number = 0 } ];
      carried = [];
    }) entry.is_first in
    subst (λ at. Related s c live (graph_start c.graphs s input) (located_step s c at)) (sym same)
    (procedures_are_entered s c live s.program.main p [] (first_store s input) [] [] begins frames planned is_p entry (sym no_formals) (refl, refl) tt)
