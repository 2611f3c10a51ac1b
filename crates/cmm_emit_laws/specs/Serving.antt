-- Machines whose steps the code of an image does: each step is done by instructions alone, or by instructions that come to one ECALL, which
-- asks for what the step does, and by instructions behind it.
use Rattle.std.specs.Prelude.{◌≡◌, ℕ, ◌+◌, ◌≤◌, false, Some}
use Rattle.rv_table.specs.declared.request.Request.{Request}
use Rattle.rv_table.specs.Machine.{State, Asks, instruction_step}
use Rattle.rv_asm.specs.Reaching.{Reaches}
use Rattle.cmm_simulation.specs.Machine.{Machine}
use Rattle.cmm_simulation.specs.Seen.{Event, but_input}
use Rattle.cmm_program.specs.State.{Outcome}
use Rattle.cmm_machine_laws.specs.Observed.{Call, Ending}
use Rattle.cmm_image_machine.specs.Machine.{Launch, Run, Running, Ended, map_of, requested}
use Rattle.cmm_image_machine.specs.Observed.{asked_at, event_at}
use Rattle.cmm_emit_laws.specs.Outside.{Outside, outside, run_with, seen_outside}

-- `outside_of` says what is outside of registers and memory while the machine is in a state, `Shown` which registers and memory represent one that
-- is not over, and `Holds` what holds of the states of which this is asked.
module _ {S : Type 0} (A : Machine S ℕ Call Ending) (l : Launch) (outside_of : S → Outside) (Shown : S → State → Type 0) (Holds : S → Type 0) where
  -- the run has what is outside alike, and registers and memory that represent the state; once the run is over, the ending is the state's
  pub record IsRepresentedBy (a : S) (run : Run) : Type 0 where
    pub outside : outside run ≡ outside_of a
    pub right : A.wrong a ≡ false
    pub holds : Holds a
    pub running : (outside_of a).status ≡ Running → Shown a run.machine
    pub over : (outcome : Outcome) → (outside_of a).status ≡ Ended outcome → A.asks a ≡ event_at l run.machine (Ended outcome)

  -- At an ECALL that asks for what the next step does: the step stands at the event of the request, if that is one, and what is outside
  -- afterwards is what the request leaves; from there, few instructions come to what represents the state after the step.
  pub record IsAsked (a : S) (later : ℕ) (request : Request) (s : State) : Type 0 where
    pub asks : instruction_step (map_of l) s ≡ Asks request
    pub event : (e : Event Call Ending) → asked_at l s (Asks request) ≡ Some e → A.asks a ≡ Some e
    pub outside : outside (requested l (run_with (outside_of a) s) request) ≡ outside_of (A.step a)
    pub running : (outside_of (A.step a)).status ≡ Running →
        Reaches (map_of l) 0 later (requested l (run_with (outside_of a) s) request).machine (Shown (A.step a))
    pub over : (outcome : Outcome) → (outside_of (A.step a)).status ≡ Ended outcome →
        A.asks (A.step a) ≡ event_at l (requested l (run_with (outside_of a) s) request).machine (Ended outcome)

  -- code does a step, within n instructions
  pub data IsDoneBy (a : S) (cost : ℕ) (s : State) : Type 0 where
    -- by instructions alone, which nothing outside takes part in
    Silently : outside_of (A.step a) ≡ outside_of a → Reaches (map_of l) 1 cost s (Shown (A.step a)) → IsDoneBy a cost s
    -- by one request, with n instructions at most before it and behind it
    Asking : (before later : ℕ) (request : Request) → before + 1 + later ≤ cost → Reaches (map_of l) 0 before s (IsAsked a later request) →
        IsDoneBy a cost s

  -- what is required of a machine, but for the code of its steps
  pub record IsServed (cost : S → ℕ) : Type 0 where
    pub seen : (a : S) → A.seen a ≡ seen_outside (outside_of a)
    -- a state that is not wrong goes on, or is over and stays
    pub over : (a : S) → Holds a → A.wrong a ≡ false → ((outside_of a).status ≡ Running → ⊥) →
        (outcome : Outcome) × ((outside_of a).status ≡ Ended outcome) × (A.step a ≡ a)
    pub costs : (a : S) → Holds a → 1 ≤ cost a
    -- what the machine stands at, the first instruction asks for; an input may come later
    pub level : (a : S) (s : State) → Holds a → (outside_of a).status ≡ Running → Shown a s →
        but_input (A.asks a) ≡ but_input (asked_at l s (instruction_step (map_of l) s))

  -- and with the code of its steps
  pub record AreDone (cost : S → ℕ) : Type 0 where
    pub served : IsServed cost
    pub keeps : (a : S) (s : State) → Holds a → (outside_of a).status ≡ Running → Shown a s → A.wrong (A.step a) ≡ false → Holds (A.step a)
    pub done : (a : S) (s : State) → Holds a → (outside_of a).status ≡ Running → Shown a s → A.wrong (A.step a) ≡ false → IsDoneBy a (cost a) s
