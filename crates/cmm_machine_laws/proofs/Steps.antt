-- Steps of any control: where they stay, and what a state has after a landing, after a step and after many.
use Rattle.cmm_machine_laws.proofs.Kept.{KeptBy, KeptIn, kept_and_then, kept_in}
use Rattle.cmm_machine_laws.proofs.Lists.{at_result, at_option}
use Rattle.cmm_machine_laws.proofs.StackKept.{After, Leads, land_after, nothing_after}
use Rattle.cmm_machine_laws.specs.Runs.{NextOrder, Traffic, traffic, yielded}
use Rattle.cmm_program.specs.Orders.{Order}
use Rattle.cmm_program.specs.Client.{answered}
use Rattle.cmm_program.specs.Control.{Control, State, transferred, arrived, landed, over, ran}
use Rattle.cmm_program.specs.Errors.{UncheckedError}
use Rattle.cmm_program.specs.Exits.{Instead, Landing, land}
use Rattle.cmm_program.specs.Machine.{first_store, start_of, step_of, steps_of}
use Rattle.cmm_program.specs.Performing.{perform}
use Rattle.cmm_program.specs.State.{Ended, Outcome, Running, Setting, StackLimit, Store, Waiting, Wrong}
use Rattle.std.proofs.Common.{arith, [], List, None, refl, suc, zero, ℕ, ◌≡◌}

module _ {C : Type 0} (k : Control C) (s : Setting) where
  -- an ended state stays
  pub ended_stays : (st : State C) (outcome : Outcome) → st.store.status ≡ Ended outcome → step_of k s st ≡ st
  ended_stays st outcome is = rw is refl

  -- a wrong state stays
  pub wrong_stays : (st : State C) (error : UncheckedError) → st.store.status ≡ Wrong error → step_of k s st ≡ st
  wrong_stays st error is = rw is refl

  -- what a state has after a landing, and when it ends the run
  pub landed_has : (P : State C → Type 0) (landing : Landing) (store : Store) (cs : List C) →
      KeptIn (λ after. P record { store = over Running after; controls = arrived k landing cs }) (land s landing store) →
      P record { store = over (Ended StackLimit) store; controls = cs } → P (landed k s landing store cs)
  landed_has P landing store cs lands ends = at_option (land s landing store) _ _ P lands.holds ends

  -- so where control lands
  pub lands : {from : Store} {T : Traffic → Type 0} (landing : Landing) (store : Store) (cs : List C) → After s from T store →
      Leads s from T (landed k s landing store cs).store
  lands {from = from} {T = T} landing store cs here = landed_has (λ st. Leads s from T st.store) landing store cs
      (kept_in (λ after there. (there.passed, there.stack)) (land_after landing store here)) (here.passed, here.stack)

  -- and so at the start
  pub start_keeps : (input : List ℕ) → let first = first_store s input in Leads s first (λ t. t ≡ traffic first) (start_of k s input).store
  start_keeps input =
      let first = first_store s input in
      lands {T = λ t. t ≡ traffic first} (Instead s.program.main []) first [] (nothing_after s first refl)

  -- what a state has after an order, an unchecked error and a client's answer, and where it stays
  pub step_has : (P : State C → Type 0) (st : State C) →
      ((order : Order) → NextOrder k s st order → KeptBy (λ transfer. P (transferred k s transfer st.controls)) (perform s order st.store)) →
      ((error : UncheckedError) → P (record st { store = over (Wrong error) st.store })) →
      ((values : List ℕ) → st.store.status ≡ Waiting values → P (transferred k s (answered s values st.store) st.controls)) →
      (yielded st.store.status ≡ None → P st) → P (step_of k s st)
  step_has P st does fails answers stays =
      let runs : st.store.status ≡ Running → P (ran k s st) =
      λ running. at_result _ _ _ P (kept_and_then _ _ (λ order is. does order (record { running = running; next = is }))).holds fails in
      grind (arith, runs, answers, stays)

  -- what each step keeps holds after any number of steps
  pub kept_by_steps : (P : State C → Type 0) → ((st : State C) → P st → P (step_of k s st)) → (n : ℕ) (st : State C) → P st → P (steps_of k s n st)
  kept_by_steps P keeps zero st holds = holds
  kept_by_steps P keeps (suc n) st holds = kept_by_steps P keeps n (step_of k s st) (keeps st holds)
