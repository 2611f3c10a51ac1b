-- A state by its store: one step of it, by what its youngest activation comes to; and machines that have the same store are level.
use Rattle.std.proofs.Common.{◌≡◌, ℕ, refl, sym, ◌∙◌, ap, List, ◌∷◌}
use Rattle.std.specs.Prelude.{Bool, false, true, Option, Some, None, Ok, Err}
use Rattle.cmm_simulation.specs.Observing.{Level}
use Rattle.cmm_simulation.specs.Seen.{but_input}
use Rattle.cmm_machine_laws.specs.Observed.{event_at, machine_of, store_seen}
use Rattle.cmm_program.specs.Acts.{Act, GetByte}
use Rattle.cmm_program.specs.Client.{answered}
use Rattle.cmm_program.specs.Control.{Control, State, arrived, next_act, over, transferred}
use Rattle.cmm_program.specs.Errors.{Tried}
use Rattle.cmm_program.specs.Exits.{Landing}
use Rattle.cmm_program.specs.Machine.{step_of}
use Rattle.cmm_program.specs.Performing.{Transfer, Stay}
use Rattle.cmm_program.specs.State.{Setting, Store, Status, Running, Waiting, Ended, Wrong, StackLimit}
use Rattle.cmm_rewriting.specs.Places.{comes_to}

-- ---- one step

-- a state whose youngest activation has come to this, and the next one by the status of the store
module _ {E : Type 0} (m : Control E) (s : Setting) (store : Store) (es : List E) where
  abbrev pub after_trial : Tried Transfer → State E
  after_trial r = elim r [ Ok transfer ↦ transferred m s transfer es | Err error ↦ record { store = over (Wrong error) store; controls = es } ]

  abbrev pub stepped : Status → State E
  stepped status = elim status [
    | Running ↦ after_trial (comes_to s store (next_act m es))
    | Waiting values ↦ transferred m s (answered s values store) es
    | Ended outcome ↦ record { store = store; controls = es }
    | Wrong error ↦ record { store = store; controls = es }
  ]

  abbrev pub landed_by : Landing → Option Store → State E
  landed_by landing o = elim o [
    | Some after ↦ record { store = over Running after; controls = arrived m landing es }
    | None ↦ record { store = over (Ended StackLimit) store; controls = es }
  ]

-- one that stays goes on by its way
pub stays_on : {E : Type 0} (m : Control E) (s : Setting) (store after : Store) (e : E) (es : List E) (way : ℕ) → store.status ≡ Running →
    comes_to s store (m.act e) ≡ Ok (Stay way after) →
    step_of m s record { store = store; controls = e ∷ es } ≡ record { store = after; controls = m.on way e ∷ es }
stays_on m s store after e es way running stays =
    ap (λ (status : Status). stepped m s store (e ∷ es) status) running ∙ ap (λ (r : Tried Transfer). after_trial m s store (e ∷ es) r) stays

-- ---- two machines

-- what stands at an input stands at nothing that counts
running_asks : (s : Setting) (store : Store) (act : Act) → but_input (event_at s Running store act) ≡ None
running_asks s store (GetByte target) = refl
running_asks s store act = refl

same_asks : (s : Setting) (status : Status) (store : Store) (one other : Act) →
    but_input (event_at s status store one) ≡ but_input (event_at s status store other)
same_asks s Running store one other = running_asks s store one ∙ sym (running_asks s store other)
same_asks s (Waiting values) store one other = refl
same_asks s (Ended outcome) store one other = refl
same_asks s (Wrong error) store one other = refl

abbrev pub is_wrong : Store → Bool
is_wrong store = elim store.status [ Wrong error ↦ true | _ ↦ false ]

-- they are level, whatever controls they have
pub level_by_store : {C D : Type 0} (k : Control C) (l : Control D) (s : Setting) (a : State C) (b : State D) → b.store ≡ a.store →
    Level (machine_of k s) (machine_of l s) a b
level_by_store k l s a b same = record {
  seen = ap store_seen (sym same);
  asks =
      same_asks s a.store.status a.store (next_act k a.controls) (next_act l b.controls)
      ∙ ap (λ (store : Store). but_input (event_at s store.status store (next_act l b.controls))) (sym same);
  wrong = ap is_wrong (sym same);
}
