-- Events that a run may come to: a machine that is wrong, too, where it stands at any other.
use Rattle.std.specs.Prelude.{◌≡◌, ℕ, ◌||◌, not, Bool, true, false, Option, Some, None}
use Rattle.cmm_simulation.specs.Machine.{Machine, after}
use Rattle.cmm_simulation.specs.Seen.{Event}

-- an event that does not pass a test
abbrev pub fails : {Call Ending : Type 0} → (Event Call Ending → Bool) → Option (Event Call Ending) → Bool
fails passes (Some event) = not (passes event)
fails passes None = false

-- the machine that goes wrong, too, at events that do not pass
abbrev pub tested : {State Line Call Ending : Type 0} → (Event Call Ending → Bool) → Machine State Line Call Ending → Machine State Line Call Ending
tested passes M = record M { wrong = λ s. M.wrong s || fails passes (M.asks s) }

-- every event to which a run comes passes, unless the run goes wrong
abbrev pub EventsPass : {State Line Call Ending : Type 0} → (Event Call Ending → Bool) → Machine State Line Call Ending → State → Type 0
EventsPass {Call = Call} {Ending = Ending} passes M s =
    (m : ℕ) → M.wrong (after M m s) ≡ false → (event : Event Call Ending) → M.asks (after M m s) ≡ Some event → passes event ≡ true
