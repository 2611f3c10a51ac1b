-- What is seen of a machine with any control: so each of them stands in the theory of following.
use Rattle.std.specs.Prelude.{◌≡◌, ℕ, ◌-◌, true, false, List, ◌++◌, length, take, Option, Some, None}
use Rattle.cmm_script.specs.Lines.{yield_line}
use Rattle.cmm_script.specs.Walk.{Activation}
use Rattle.cmm_program.specs.State.{Setting, Store, Status, Running, Waiting, Ended, Wrong, Outcome, Stopped}
use Rattle.cmm_program.specs.Acts.{Act, GetByte}
use Rattle.cmm_program.specs.Control.{Control, State, next_act}
use Rattle.cmm_program.specs.Machine.{step_of}
use Rattle.cmm_program.specs.Walks.{walk_of}
use Rattle.cmm_simulation.specs.Seen.{Seen, Event, Input, Client, End}
use Rattle.cmm_program.specs.Todo.{todo_control}
use Rattle.cmm_simulation.specs.Machine.{Machine, Lasts}
use Rattle.cmm_machine_laws.specs.Runs.{yielded}

-- what the client sees when it is called: the values of the yield, and the walk, unless the stack cannot be walked, as where an image's
-- chain of frames breaks
pub record Call : Type 0 where
  pub values : List ℕ
  pub walk : Option (List Activation)

-- how a run ended; where the client stopped it the walk belongs to the ending, unless the stack cannot be walked
pub record Ending : Type 0 where
  pub outcome : Outcome
  pub walk : Option (List Activation)

-- the ending with this outcome, of a run whose stack has this walk
abbrev pub ending_of : Outcome → Option (List Activation) → Ending
ending_of Stopped walk = record { outcome = Stopped; walk = walk }
ending_of outcome walk = record { outcome = outcome; walk = None }

-- the log, without the line of a yield whose values the client has not answered yet
abbrev pub log_seen : Option (List ℕ) → List ℕ → List ℕ
log_seen None log = log
log_seen (Some values) log = take (length log - length (yield_line values)) log

-- the line of a yield is not seen until the client has answered
abbrev pub LineUnseen : Type 0
LineUnseen = (values log : List ℕ) → log_seen (Some values) (log ++ yield_line values) ≡ log

-- what a store shows
abbrev pub store_seen : Store → Seen ℕ
store_seen store = record { output = store.output; log = log_seen (yielded store.status) store.log; taken = store.taken }

-- what a state with this status and this next act stands at; an act that takes from the input stands at that
abbrev pub event_at : Setting → Status → Store → Act → Option (Event Call Ending)
event_at s (Waiting values) store act = Some (Client record { values = values; walk = Some (walk_of s store) })
event_at s (Ended outcome) store act = Some (End (ending_of outcome (Some (walk_of s store))))
event_at s Running store (GetByte target) = Some Input
event_at s status store act = None

-- the machine of any control, in the theory of following
abbrev pub machine_of : {C : Type 0} → Control C → Setting → Machine (State C) ℕ Call Ending
machine_of k s = record {
  step = step_of k s;
  seen = λ st. store_seen st.store;
  asks = λ st. event_at s st.store.status st.store (next_act k st.controls);
  wrong = λ st. elim st.store.status [ Wrong error ↦ true | _ ↦ false ];
}

-- what is seen of the C-- machine only grows, and what is over or wrong stays so
abbrev pub MachineLasts : Type 0
MachineLasts = (s : Setting) → Lasts (machine_of (todo_control s.program) s)
