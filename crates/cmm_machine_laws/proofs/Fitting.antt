-- Every state of the C-- machine is sound: the first one is, and each step keeps it.
use Rattle.cmm_machine_laws.specs.Runs as runs
use Rattle.cmm_program.specs.Memory as cells
use Rattle.cmm_machine_laws.proofs.Doing.{answered_kept, exit_fits}
use Rattle.cmm_machine_laws.proofs.FittingActs.{OrderFits, order_fits, PlaceFits, WordFits, WriteFits}
use Rattle.cmm_machine_laws.proofs.FittingExits.{LandingFits, Left, FormalsFit, fitting_zip, found_fits, suspended_fits, words_zip}
use Rattle.cmm_machine_laws.proofs.FittingExpressions.{ReadsFit, width_gives}
use Rattle.cmm_machine_laws.proofs.FittingLandings.{land_fits, dropped_keeps, any_site, moved_keeps, proc_in_range}
use Rattle.cmm_machine_laws.proofs.FittingStart.{data_cells, parts_inside}
use Rattle.cmm_machine_laws.proofs.FittingStores.{with_bytes_fit, IsYoungest, Leaves, Works, assigned_works, reads_fit, variable_fits, with_site_keeps}
use Rattle.cmm_machine_laws.proofs.Growing.{step_leads}
use Rattle.cmm_machine_laws.proofs.Kept.{KeptBy, kept_in, keeping, kept_after, kept_ok}
use Rattle.cmm_program.proofs.Shared.{all_get}
use Rattle.cmm_machine_laws.proofs.Lists.{some_get, zip_zeros}
use Rattle.cmm_machine_laws.proofs.Steps.{kept_by_steps, landed_has, start_keeps, step_has}
use Rattle.cmm_machine_laws.proofs.StoredWords.{bytes_of_number}
use Rattle.cmm_machine_laws.specs.Fitting.{StateFits, MemoryFits, AreActivations, Demand, ExpressionsFit, IsSound, IsStatementOf, IsSuspended, RoomFits, Youngest, ArePassed, IsSetUp, StatesAreSound}
use Rattle.cmm_machine_laws.specs.Runs.{Adds, Traffic, traffic}
use Rattle.cmm_program.specs.Acts.{evaluated}
use Rattle.cmm_program.specs.Orders as order
use Rattle.cmm_program.specs.Orders.{Memory, Order, Held, Place, Word, Write}
use Rattle.cmm_program.specs.Client.{answered, with_log, with_value}
use Rattle.cmm_program.specs.Control.{Control, State, transferred, next_act, over}
use Rattle.cmm_program.specs.Exits.{Exit, Instead, Landing, have_widths, numbers}
use Rattle.cmm_program.specs.Frames.{Suspended, procedure_at, suspended_at, without}
use Rattle.cmm_program.specs.Layout.{bytes_of}
use Rattle.cmm_program.specs.Machine.{first_store, start, step}
use Rattle.cmm_program.specs.Memory.{IsByte, with_bytes}
use Rattle.cmm_program.specs.Performing.{Transfer, Away, Over, Stay, perform}
use Rattle.cmm_program.specs.State.{Ended, Activation, Outcome, Running, Setting, Store, Waiting, StackLimit, Stopped}
use Rattle.cmm_program.specs.Todo.{Todo, todo_control}
use Rattle.cmm_program.specs.Values.{Reads}
use Rattle.cmm_program.specs.Writes.{reads_of, put, put_all}
use Rattle.cmm_program.specs.declared.procedure.Proc.{Proc}
use Rattle.cmm_program.specs.declared.procedure.VarInfo.{VarInfo}
use Rattle.cmm_program.specs.declared.statement.Statement.{Statement}
use Rattle.cmm_words.specs.Widths.{bits, bytes}
use Rattle.std.proofs.Common.{lit<, zero, suc, All, List, Some, [], arith, drop, map, refl, subst, sym, take, slice_get, ℕ, ◌++◌, ◌<◌, ◌^◌, ◌∷◌, ◌≡◌, true}
use Rattle.std.proofs.lemmas.Bool.Decides.{nat_tests}
use Rattle.std.proofs.lemmas.List.Elements.{All-drop, All-head, All-nil, All-push, All-tail}
use Rattle.std.proofs.lemmas.Nat.{mod_below, pow_pos}
use Rattle.std.specs.Prelude.{⊤}

-- ---- what orders and commands change

module _ (s : Setting) (n value : ℕ) (a : Suspended) (v : VarInfo) (is : slice_get a.procedure.vars n ≡ Some v) (word : value < 2 ^ bits v.width) where
  -- a variable of an activation with a value of its width
  set_keeps : (P : Demand) (cursor : ℕ) (fs : List Activation) (ts : List Todo) → AreActivations s P fs ts → suspended_at s (drop cursor fs) ≡ Some a →
      AreActivations s P (with_value cursor n value fs) ts
  set_keeps P zero (f ∷ fs) (t ∷ ts) are at =
      ((variable_fits s a.procedure P (f ∷ fs) (t ∷ ts) n v.width are (grind arith) (grind (arith, nat_tests))).1 value word).0
  set_keeps P (suc cursor) (f ∷ fs) (t ∷ ts) are at = (are.0, are.1, set_keeps IsSuspended cursor fs ts are.2 at)
  set_keeps P cursor fs ts are at = grind arith

-- bytes of a number in memory
stored : (m : cells.Memory) (address size value : ℕ) → MemoryFits m → MemoryFits (with_bytes m address (bytes_of size value))
stored m address size value = with_bytes_fit m address (bytes_of size value) (bytes_of_number size value).1

-- what a step adds leaves bytes
adds_bytes : {C : Type 0} (k : Control C) (s : Setting) (st : State C) (t : Traffic) → Adds k s st t → ArePassed (traffic st.store) → ArePassed t
adds_bytes k s st t (runs.Output value n called next) old = search (All-push IsByte, mod_below n 256 (omega arith))
adds_bytes k s st t (runs.Input byte rest takes left) old =
    search (rw left at old.0, All-push IsByte, All-head IsByte byte rest, All-tail IsByte byte)
adds_bytes k s st t adds old = old

-- words that have just the widths of the formals of a procedure fit them
formals_fit : (s : Setting) (n : ℕ) (p : Proc) (words : List Word) → procedure_at s n ≡ Some p →
    have_widths (map (λ v. v.width) (take p.formals p.vars)) words ≡ true → All WordFits words → FormalsFit s n (numbers words)
formals_fit s n p words is have fit q same = words_zip (map (λ v. v.width) (take q.formals q.vars)) words (grind arith) fit

module _ (s : Setting) (set : IsSetUp s) (ts : List Todo) where
  -- what an answer leads to fits, for activations that stand at these places
  abbrev TransferFits : Transfer → Type 0
  TransferFits transfer = StateFits s (transferred (todo_control s.program) s transfer ts)

  module _ (P : Demand) (store : Store) (old : Leaves s P ts store) where
    -- once some activations are gone
    left_fits : (gone : ℕ) → Leaves s (Left gone) (drop gone ts) (without gone store)
    left_fits gone = search (All-drop RoomFits gone store.memory.rooms old.0.1.rooms, dropped_keeps s P gone store.activations ts old.1)

    -- the run ends
    ends : (gone : ℕ) (outcome : Outcome) → TransferFits (Over gone (over (Ended outcome) (without gone store)))
    ends gone outcome = search (left_fits gone, any_site s (Left gone))

    -- or control lands
    goes : (gone : ℕ) (landing : Landing) → LandingFits s gone landing (drop gone store.activations) → TransferFits (Away gone (without gone store) landing)
    goes gone landing fits = landed_has (todo_control s.program) s (StateFits s) landing _ _ (kept_in (λ after new. search new)
        (land_fits s set.program gone landing _ _ (left_fits gone) fits)) (ends gone StackLimit)

  -- the client's answer
  answered_fits : (P : Demand) (values : List ℕ) (store : Store) → Leaves s P ts store → TransferFits (answered s values store)
  answered_fits P values start = answered_kept s values (Leaves s P ts) TransferFits start (record {
    sets = λ store old cursor n value a info at is less. search (set_keeps s n value a info is less P cursor store.activations ts old.1 at, old);
    pokes = λ store old address value may. search (stored store.memory address 8 value old.0.1, old);
    goes = λ store old more gone a e vs at exit count fit.
        goes P (with_log (start.log ++ more) store) old gone (e.landing vs) (exit_fits s (drop gone store.activations) a gone e at exit vs (fitting_zip e.widths vs count fit) gone);
    stops = λ store old more. ends P (with_log (start.log ++ more) store) old 0 Stopped;
  })

  -- ---- orders

  module _ (q : Proc) where
    -- a store in which the youngest activation, one of this procedure, runs
    abbrev Runs : Store → Type 0
    Runs store = Works s q (Youngest Running) Running ts store

    -- a value put into a place, and values one after the other
    put_fits : (place : Place) (value : ℕ) (store : Store) → PlaceFits s.program q place value → Runs store → KeptBy Runs (put place value store)
    put_fits (Held target) value store fits here = kept_ok (assigned_works s q (Youngest Running) Running ts target value store here fits)
    put_fits (Memory width _ address) value store fits here = search (keeping, stored store.memory address (bytes width) value here.0.0.1)

    put_all_fit : (ws : List Write) (store : Store) → All (WriteFits s.program q) ws → Runs store → KeptBy Runs (put_all ws store)
    put_all_fit [] store fits here = kept_ok here
    put_all_fit (w ∷ ws) store fits here =
        kept_after (put_fits w.place w.value store (All-head (WriteFits s.program q) w ws fits) here)
        (λ after. put_all_fit ws after (All-tail (WriteFits s.program q) w ws fits))

    -- the activation goes on
    stays : (way : ℕ) (store : Store) → Runs store → TransferFits (Stay way store)
    stays way store here = rw here.2 (search (moved_keeps s set.program (Youngest Running) way store.activations ts here.0.1))

    -- a return, by how many frames there are
    returns : (exit alternates : ℕ) (activations : List Activation) (words : List Word) (base : Store) → let store : Store = record base { activations = activations } in
        All WordFits words → Runs store → KeptBy TransferFits (perform s (order.Return exit alternates words) store)
    returns exit alternates (f ∷ []) [] base fit here = search keeping
    returns exit alternates activations words base fit here =
        let store : Store = record base { activations = activations } in
        let back = λ (older : List Activation) (a : Suspended) (at : suspended_at s older ≡ Some a) (n : ℕ) (e : Exit). (suspended_fits s older a at n e).0 in
        search (keeping, goes (Youngest Running) store here.0 1, ends (Youngest Running) store here.0 1, back, words_zip) depth 10

    -- every order
    perform_fits : (order : Order) (store : Store) → OrderFits s.program q order → All IsByte store.input → Runs store →
        KeptBy TransferFits (perform s order store)
    perform_fits (order.Assign ws) store fits bytes here = kept_after (put_all_fit ws store fits here) (λ after h. kept_ok (stays 0 after h))
    perform_fits (order.GetByte target) store fits bytes here =
        kept_ok (stays 0 _ (assigned_works s q _ _ ts target _ _ (grind arith) (fits.0, grind (arith, nat_tests, bytes 0 0))))
    perform_fits (order.Yield site values) store fits bytes here =
        let waits = with_site_keeps s q _ (Youngest (Waiting values)) (Some site) _ ts (site, refl) fits.0 here.0.1 here.1 in
        search (keeping, moved_keeps s set.program _ 0 _ ts waits)
    perform_fits (order.Return exit alternates words) store fits bytes here = returns exit alternates store.activations words store fits here
    perform_fits order store fits bytes here =
        search (keeping, lit<, stays, goes (Youngest Running) store here.0, here.1, formals_fit, words_zip, found_fits s) depth 10

-- ---- every step

module _ (s : Setting) (set : IsSetUp s) where
  -- there is a youngest activation in a running state
  youngest : (activations : List Activation) (ts : List Todo) → AreActivations s (Youngest Running) activations ts → (q : Proc) × IsYoungest s q activations
  youngest (f ∷ fs) (t ∷ ts) are = some_get s.program.procs f.procedure are.1.known
  youngest activations ts are = grind arith

  -- the order of what it does fits
  act_fits : (P : Demand) (activations : List Activation) (ts : List Todo) (q : Proc) (r : Reads) → AreActivations s P activations ts → IsYoungest s q activations →
      ReadsFit s.program q r → KeptBy (OrderFits s.program q) (evaluated r (next_act (todo_control s.program) ts))
  act_fits P (f ∷ fs) (t ∷ ts) q r are is reads =
      let fits = λ (x : Statement). order_fits s.program q r reads x.form (proc_in_range s set.program f.procedure q is).sites in
      grind (arith, nat_tests, fits, λ (x : Statement). all_get (IsStatementOf s.program q) t.rest 0 x (are.1.procedure q is).statements)
  act_fits P activations ts q r are is reads = grind arith

  -- what the youngest activation of a sound state reads fits
  sound_reads : (st : State Todo) (q : Proc) → IsSound s st → IsYoungest s q st.store.activations → ReadsFit s.program q (reads_of s st.store)
  sound_reads st q sound youngest = reads_fit s set.top (parts_inside s set.program set.placement) q _ _ _ st.store sound.stack
      (((sound.fits.registers, sound.fits.memory), sound.fits.activations), youngest, refl)

  -- one step
  step_fits : (st : State Todo) → IsSound s st → StateFits s (step s st)
  step_fits st old =
      let held : Leaves s (Youngest st.store.status) st.controls st.store = ((old.fits.registers, old.fits.memory), old.fits.activations) in
      step_has (todo_control s.program) s (StateFits s) st
      (λ order next.
      let here = rw next.running at held in
      let q = youngest st.store.activations st.controls here.1 in
      let fits = act_fits _ st.store.activations st.controls q.0 (reads_of s st.store) here.1 q.1 (sound_reads st q.0 old q.1) in
      perform_fits s set st.controls q.0 order st.store (fits.holds order next.next) old.passed.0 (here, q.1, next.running))
      (λ error. search (held, any_site s (Youngest st.store.status)))
      (λ values is. answered_fits s set st.controls (Youngest st.store.status) values st.store held)
      (λ rests. old.fits)

  -- the first state
  first_sound : (input : List ℕ) → All IsByte input → IsSound s (start s input)
  first_sound input are =
      let kept = start_keeps (todo_control s.program) s input in
      let fits = goes s set [] (λ x. ⊤) (first_store s input)
      ((zip_zeros _ s.program.globals (λ g. pow_pos (bits g.width)), record { data_room = data_cells s; rooms = All-nil RoomFits }), tt)
      1 (Instead s.program.main []) (omega arith, λ q is. rw (set.program.main_formals q is) tt) in
      search (fits, subst ArePassed (sym kept.0) (are, All-nil IsByte, All-nil IsByte), kept.1.0 (omega arith))

  -- and each next one
  next_sound : (st : State Todo) → IsSound s st → IsSound s (step s st)
  next_sound st old =
      let k = todo_control s.program in
      search (step_fits st old, adds_bytes k s st _ (step_leads k s st).0 old.passed, (step_leads k s st).1.0 old.stack)

-- the first state, each step, and so every state of a run
pub states_are_sound : StatesAreSound
states_are_sound = search (first_sound, next_sound, λ (s : Setting). kept_by_steps (todo_control s.program) s (IsSound s))

-- the values of expressions in a sound state
pub expressions_fitting : ExpressionsFit
expressions_fitting s st f fs q e w value set sound youngest found typed is =
    (width_gives s.program q _ (sound_reads s set st q sound (rw youngest found)) w e (grind (arith, nat_tests, typed))).holds value is
