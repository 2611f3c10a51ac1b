-- Machines: what they do step by step, what is seen of them, and what their steps cost.
use Rattle.std.specs.Prelude.{◌≡◌, ℕ, zero, suc, ◌+◌, ◌≤◌, Bool, true, false, Option, Some}
use Rattle.cmm_simulation.specs.Seen.{Seen, IsWithin, Event, End}

-- a machine goes from each state to one next state; of a state it says what has been seen, at which event it stands, if at one, and
-- whether the run has gone wrong
pub record Machine (State Line Call Ending : Type 0) : Type 0 where
  pub step : State → State
  pub seen : State → Seen Line
  pub asks : State → Option (Event Call Ending)
  pub wrong : State → Bool

-- the state after n steps
abbrev pub after : {State Line Call Ending : Type 0} → Machine State Line Call Ending → ℕ → State → State
after M zero s = s
after M (suc n) s = M.step (after M n s)

-- what n steps cost together, where cost gives what the step from a state costs
abbrev pub spent : {State Line Call Ending : Type 0} → Machine State Line Call Ending → (State → ℕ) → ℕ → State → ℕ
spent M cost zero s = 0
spent M cost (suc n) s = spent M cost n s + cost (after M n s)

-- a run has not gone wrong by n steps
abbrev pub IsRightUntil : {State Line Call Ending : Type 0} → Machine State Line Call Ending → ℕ → State → Type 0
IsRightUntil M n s = (i : ℕ) → i ≤ n → M.wrong (after M i s) ≡ false

module _ {State Line Call Ending : Type 0} (M : Machine State Line Call Ending) where
  -- a state stands at an event, once so much has been seen
  abbrev pub Stands : Event Call Ending → Seen Line → State → Type 0
  Stands event seen s = (M.asks s ≡ Some event) × (M.seen s ≡ seen)

  -- nothing that is seen is taken back, a run that is over stays over and shows nothing more, and one that is wrong stays wrong
  pub record Lasts : Type 0 where
    pub grows : (s : State) → IsWithin (M.seen s) (M.seen (M.step s))
    pub over : (s : State) (ending : Ending) → M.asks s ≡ Some (End ending) → Stands (End ending) (M.seen s) (M.step s)
    pub wrong : (s : State) → M.wrong s ≡ true → M.wrong (M.step s) ≡ true
