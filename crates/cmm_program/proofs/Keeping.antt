-- What each operation of a control keeps holds of where the activations stand, in each state of a run.
use Rattle.std.proofs.Common.{ℕ, zero, suc, List, [], ◌∷◌, drop, Ok, Err, Option, Some, None}
use Rattle.std.specs.List.{AllByRecursion}
use Rattle.cmm_program.specs.Errors.{Tried}
use Rattle.cmm_program.specs.State.{Setting, Store, Status, Running, Waiting, Ended, Wrong, StackLimit}
use Rattle.cmm_program.specs.Exits.{Landing, Called, Instead, Back, Resumed, land}
use Rattle.cmm_program.specs.Performing.{Transfer, Stay, Wait, Away, Over}
use Rattle.cmm_program.specs.Control.{Control, State, arrived, landed, moved, transferred, over, ran}
use Rattle.cmm_program.specs.Client.{answered}
use Rattle.cmm_program.specs.Machine.{step_of, steps_of, start_of, first_store}

-- a property of where an activation stands, kept by each operation of a control
pub record IsKept {C : Type 0} (k : Control C) (P : C → Type 0) : Type 0 where
  pub on : (way : ℕ) (c : C) → P c → P (k.on way c)
  pub later : (c : C) → P c → P (k.later c)
  pub back : (c : C) → P c → P (k.back c)
  pub resume : (n : ℕ) (c : C) → P c → P (k.resume n c)
  pub begin : (n : ℕ) → P (k.begin n)

module _ {C : Type 0} {k : Control C} {P : C → Type 0} (kept : IsKept k P) where
  without_youngest : (n : ℕ) (cs : List C) → AllByRecursion P cs → AllByRecursion P (drop n cs)
  without_youngest zero cs each = each
  without_youngest (suc n) [] each = each
  without_youngest (suc n) (c ∷ cs) each = without_youngest n cs each.1

  on_arrival : (landing : Landing) (cs : List C) → AllByRecursion P cs → AllByRecursion P (arrived k landing cs)
  on_arrival (Called site n values) [] each = (kept.begin n, tt)
  on_arrival (Called site n values) (c ∷ cs) each = (kept.begin n, (kept.later c each.0, each.1))
  on_arrival (Instead n values) cs each = (kept.begin n, each)
  on_arrival (Back values) [] each = tt
  on_arrival (Back values) (c ∷ cs) each = (kept.back c each.0, each.1)
  on_arrival (Resumed n values) [] each = tt
  on_arrival (Resumed n values) (c ∷ cs) each = (kept.resume n c each.0, each.1)

  -- after a landing, which may end the run instead
  by_store : (landing : Landing) (store : Store) (cs : List C) (after : Option Store) → AllByRecursion P cs →
      AllByRecursion P (elim after as (λ _. State C) [
        | Some after ↦ record { store = over Running after; controls = arrived k landing cs }
        | None ↦ record { store = over (Ended StackLimit) store; controls = cs }
      ]).controls
  by_store landing store cs (Some after) each = on_arrival landing cs each
  by_store landing store cs None each = each

  pub on_landing : (s : Setting) (landing : Landing) (store : Store) (cs : List C) → AllByRecursion P cs → AllByRecursion P (landed k s landing store cs).controls
  on_landing s landing store cs each = by_store landing store cs (land s landing store) each

  on_moving : (f : C → C) → ((c : C) → P c → P (f c)) → (cs : List C) → AllByRecursion P cs → AllByRecursion P (moved f cs)
  on_moving f keeps [] each = tt
  on_moving f keeps (c ∷ cs) each = (keeps c each.0, each.1)

  on_transfer : (s : Setting) (transfer : Transfer) (cs : List C) → AllByRecursion P cs → AllByRecursion P (transferred k s transfer cs).controls
  on_transfer s (Stay way store) cs each = on_moving (k.on way) (kept.on way) cs each
  on_transfer s (Wait store) cs each = on_moving k.later kept.later cs each
  on_transfer s (Away gone store landing) cs each = on_landing s landing store (drop gone cs) (without_youngest gone cs each)
  on_transfer s (Over gone store) cs each = without_youngest gone cs each

  -- after an order, or an unchecked error
  by_trial : (s : Setting) (st : State C) (tried : Tried Transfer) → AllByRecursion P st.controls →
      AllByRecursion P (elim tried as (λ _. State C) [ Ok transfer ↦ transferred k s transfer st.controls | Err e ↦ record st { store = over (Wrong e) st.store } ]).controls
  by_trial s st (Ok transfer) each = on_transfer s transfer st.controls each
  by_trial s st (Err e) each = each

  by_status : (s : Setting) (st : State C) (status : Status) → AllByRecursion P st.controls →
      AllByRecursion P (elim status as (λ _. State C) [
        | Running ↦ ran k s st
        | Waiting values ↦ transferred k s (answered s values st.store) st.controls
        | Ended outcome ↦ st
        | Wrong e ↦ st
      ]).controls
  by_status s st Running each = by_trial s st _ each
  by_status s st (Waiting values) each = on_transfer s (answered s values st.store) st.controls each
  by_status s st (Ended outcome) each = each
  by_status s st (Wrong e) each = each

  by_steps : (s : Setting) (m : ℕ) (st : State C) → AllByRecursion P st.controls → AllByRecursion P (steps_of k s m st).controls
  by_steps s zero st each = each
  by_steps s (suc m) st each = by_steps s m (step_of k s st) (by_status s st st.store.status each)

  -- in each state of a run
  pub in_runs : (s : Setting) (input : List ℕ) (m : ℕ) → AllByRecursion P (steps_of k s m (start_of k s input)).controls
  in_runs s input m = by_steps s m (start_of k s input) (on_landing s (Instead s.program.main []) (first_store s input) [] tt)
