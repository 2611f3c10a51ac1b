-- At each event of the C-- machine, what the walk shows fits its widths.
use Rattle.std.proofs.Common.{◌≡◌, ℕ, zero, suc, ◌+◌, ◌<◌, ◌^◌, Bool, true, false, List, [], ◌∷◌, Option, Some, None, refl, subst, arith}
use Rattle.std.specs.Prelude.{slice_get, slice_index_or}
use Rattle.std.specs.List.{AllZip, list_all}
use Rattle.std.proofs.lemmas.Bool.{and_from}
use Rattle.std.proofs.lemmas.Bool.Decides.{nat_tests}
use Rattle.std.proofs.lemmas.Option.{same_Some}
use Rattle.cmm_words.specs.Widths.{bits, IsWord}
use Rattle.cmm_script.specs.Walk as walk
use Rattle.cmm_program.specs.declared.procedure.Proc.{Proc}
use Rattle.cmm_program.specs.declared.procedure.Site.{Site}
use Rattle.cmm_program.specs.declared.procedure.VarInfo.{VarInfo}
use Rattle.cmm_program.specs.Acts.{Act, GetByte}
use Rattle.cmm_program.specs.Control.{State, next_act}
use Rattle.cmm_program.specs.Errors.{with_some}
use Rattle.cmm_program.specs.Frames.{Suspended, procedure_at}
use Rattle.cmm_program.specs.Liveness.{is_live_at}
use Rattle.cmm_program.specs.State.{Setting, Activation, Status, Store, Running, Waiting, Ended, Wrong, Done, Stopped, StackLimit}
use Rattle.cmm_program.specs.Todo.{Todo, todo_control}
use Rattle.cmm_program.specs.Walks as program
use Rattle.cmm_program.specs.Walks.{activation_shown, activations_shown, live_value, walk_of}
use Rattle.cmm_simulation.specs.Seen.{Event, Input, Client, End}
use Rattle.cmm_machine_laws.specs.Fitting.{AreActivations, Demand, IsSound, IsSuspended, Youngest}
use Rattle.cmm_machine_laws.specs.Observed.{Call, Ending, event_at, machine_of}
use Rattle.cmm_client_laws.specs.Fits.{event_fits, fits_shown, value_fits, walk_fits}

-- ---- lists of values

value_there : (vs : List VarInfo) (values : List ℕ) → AllZip (λ v value. IsWord v.width value) vs values → (j : ℕ) (info : VarInfo) → slice_get vs j ≡ Some info →
    slice_index_or values j 0 < 2 ^ bits info.width
value_there [] [] all j info is = absurd (cc)
value_there (v ∷ vs) (value ∷ values) all zero info is = let same : v ≡ info = same_Some v info is in subst (λ (w : VarInfo). value < 2 ^ bits w.width) same all.0
value_there (v ∷ vs) (value ∷ values) all (suc j) info is = value_there vs values all.1 j info is
value_there [] (value ∷ values) all j info is = absurd all
value_there (v ∷ vs) [] all j info is = absurd all

one_fits : (p : Proc) (n : ℕ) (values : List ℕ) (k width : ℕ) (b : Bool) → slice_index_or values k 0 < 2 ^ width →
    value_fits width (elim b as (λ _. Option ℕ) [ true ↦ Some (slice_index_or values k 0) | false ↦ None ]) ≡ true
one_fits p n values k width true less = grind (arith, nat_tests, less)
one_fits p n values k width false less = refl

variables_fit : (p : Proc) (n : ℕ) (values : List ℕ) (k : ℕ) (infos : List VarInfo) →
    ((j : ℕ) (info : VarInfo) → slice_get infos j ≡ Some info → slice_index_or values (k + j) 0 < 2 ^ bits info.width) →
    list_all fits_shown (program.variables_shown p n values k infos) ≡ true
variables_fit p n values k [] each = refl
variables_fit p n values k (v ∷ infos) each =
    let none : k + 0 ≡ k = omega arith in
    let first : slice_index_or values k 0 < 2 ^ bits v.width = subst (λ (i : ℕ). slice_index_or values i 0 < 2 ^ bits v.width) none (each 0 v refl) in
    and_from (fits_shown record { width = bits v.width; kind = v.kind; invariant = v.invariant; value = live_value p n values k }) (list_all fits_shown (program.variables_shown p n values (suc k) infos))
    (one_fits p n values k (bits v.width) (is_live_at p n k) first)
    (variables_fit p n values (suc k) infos (λ j info is. let more : k + suc j ≡ suc k + j = omega arith in
    subst (λ (i : ℕ). slice_index_or values i 0 < 2 ^ bits info.width) more (each (suc j) info is)))

-- ---- activations

module _ (s : Setting) where
  module _ (a : Activation) (older : List Activation) (each : (q : Proc) → procedure_at s a.procedure ≡ Some q → AllZip (λ v value. IsWord v.width value) q.vars a.variables)
      (rest : walk_fits (activations_shown s older) ≡ true) where
    abbrev there_at : ℕ → Proc → Option Site → Option Suspended
    there_at n p o = with_some o (λ site. let here : Suspended = record { activation = a; procedure = p; number = n; site = site } in Some here)

    abbrev found_at : ℕ → Option Proc → Option Suspended
    found_at n o = with_some o (λ p. there_at n p (slice_get p.sites n))

    abbrev here_at : Option ℕ → Option Suspended
    here_at o = with_some o (λ n. found_at n (procedure_at s a.procedure))

    abbrev whole : Option Suspended → Type 0
    whole o = walk_fits (elim o as (λ _. List walk.Activation) [ Some here ↦ activation_shown s here ∷ activations_shown s older | None ↦ [] ]) ≡ true

    there : (n : ℕ) (p : Proc) → procedure_at s a.procedure ≡ Some p → (site : Option Site) → whole (there_at n p site)
    there n p is_p (Some site) = and_from (list_all fits_shown (program.variables_shown p n a.variables 0 p.vars)) (walk_fits (activations_shown s older))
        (variables_fit p n a.variables 0 p.vars (λ j info is. let none : j ≡ 0 + j = omega arith in
        subst (λ (i : ℕ). slice_index_or a.variables i 0 < 2 ^ bits info.width) none (value_there p.vars a.variables (each p is_p) j info is))) rest
    there n p is_p None = refl

    by_procedure : (n : ℕ) (o : Option Proc) → procedure_at s a.procedure ≡ o → whole (found_at n o)
    by_procedure n (Some p) is_p = there n p is_p (slice_get p.sites n)
    by_procedure n None is_p = refl

    by_site : (o : Option ℕ) → whole (here_at o)
    by_site (Some n) = by_procedure n (procedure_at s a.procedure) refl
    by_site None = refl

    shown_fits : walk_fits (activations_shown s (a ∷ older)) ≡ true
    shown_fits = by_site a.site

  walk_of_fits : (P : Demand) (activations : List Activation) (todos : List Todo) → AreActivations s P activations todos → walk_fits (activations_shown s activations) ≡ true
  walk_of_fits P [] [] are = refl
  walk_of_fits P (a ∷ older) (t ∷ ts) are = shown_fits a older (λ q is. (are.1.procedure q is).variables) (walk_of_fits IsSuspended older ts are.2)
  walk_of_fits P [] (t ∷ ts) are = absurd are
  walk_of_fits P (a ∷ older) [] are = absurd are

  -- ---- events

  abbrev fits_if : Option (Event Call Ending) → Type 0
  fits_if o = (e : Event Call Ending) → o ≡ Some e → event_fits e ≡ true

  event_is : (status : Status) (store : Store) (act : Act) → walk_fits (walk_of s store) ≡ true → fits_if (event_at s status store act)
  event_is (Waiting values) store act fits e is =
      let same = same_Some (Client record { values = values; walk = Some (walk_of s store) }) e is in subst (λ (d : Event Call Ending). event_fits d ≡ true) same fits
  event_is (Ended (Done n)) store act fits e is =
      let same = same_Some (End record { outcome = Done n; walk = None }) e is in subst (λ (d : Event Call Ending). event_fits d ≡ true) same refl
  event_is (Ended Stopped) store act fits e is =
      let same = same_Some (End record { outcome = Stopped; walk = Some (walk_of s store) }) e is in subst (λ (d : Event Call Ending). event_fits d ≡ true) same fits
  event_is (Ended StackLimit) store act fits e is =
      let same = same_Some (End record { outcome = StackLimit; walk = None }) e is in subst (λ (d : Event Call Ending). event_fits d ≡ true) same refl
  event_is (Wrong error) store act fits e is = absurd (cc)
  event_is Running store (GetByte target) fits e is = let same = same_Some Input e is in subst (λ (d : Event Call Ending). event_fits d ≡ true) same refl
  event_is Running store _ fits e is = absurd (cc)

  -- every event of the C-- machine passes the test
  pub sound_events_fit : (st : State Todo) → IsSound s st → (e : Event Call Ending) → (machine_of (todo_control s.program) s).asks st ≡ Some e → event_fits e ≡ true
  sound_events_fit st sound = event_is st.store.status st.store (next_act (todo_control s.program) st.controls)
      (walk_of_fits (Youngest st.store.status) st.store.activations st.controls sound.fits.activations)
