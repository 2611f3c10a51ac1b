-- What one turn of a run comes to.
use Rattle.std.specs.Prelude.{◌≡◌, ◌≢◌, ◌⊎◌, ℕ, Bool, List, ◌++◌, Option, Some, None}
use Rattle.cmm_outside.specs.Output.{Appends}
use Rattle.cmm_image_machine.specs.Machine.{Launch, Run, Running, step}
use Rattle.cmm_client.specs.Stops.{state_of}
use Rattle.cmm_run.specs.declared.machine.Machine.{Machine}
use Rattle.cmm_run.specs.declared.outcome.Outcome.{Outcome}
use Rattle.cmm_run.specs.declared.outcome.Outcome.TheVariants.{Done, Stopped, StackLimit, StepLimit, Trap, InputFault, OutputFault, Torn}
use Rattle.cmm_run.specs.Outside.{Outside, NoneFailed}
use Rattle.cmm_run.specs.Runs.{Fails, IsBeforeInput, ShowsFront, answer_of}
use Rattle.cmm_run.specs.inside.Takes.{HasTaken, MayBeLeft}
use Rattle.cmm_run.specs.inside.Waits.{Moves}

-- All that a run has put and logged is written since the start, but for the output that waits.
pub record IsWritten (waiting : List ℕ) (start now : Outside) (run : Run) : Type 0 where
  pub output : Moves start.output now.output run.output waiting
  pub log : Appends start.log now.log run.log

-- Output and log got all of it.
pub record IsShown (start now : Outside) (run : Run) : Type 0 where
  pub output : Appends start.output now.output run.output
  pub log : Appends start.log now.log run.log

-- a run stands here: in the program's state, with this input that is left, and with this output that waits
pub record IsAt (machine : Machine) (start now : Outside) (left : List ℕ) (run : Run) : Type 0 where
  pub running : run.status ≡ Running
  pub machine_is : run.machine ≡ state_of machine.program
  pub input : run.input ≡ left
  pub written : IsWritten machine.waiting start now run

-- it is over, with this answer
pub record IsOver (start now : Outside) (left : List ℕ) (run : Run) (outcome : Outcome) : Type 0 where
  pub over : run.status ≢ Running
  pub answer : outcome ≡ answer_of run.status
  pub input : run.input ≡ left
  pub shown : IsShown start now run

-- a byte of the input could not be taken
pub record LacksInput (l : Launch) (start now : Outside) (left : List ℕ) (run : Run) : Type 0 where
  pub before : IsBeforeInput l run
  pub input : run.input ≡ left
  pub shown : IsShown start now run

-- output or log got a front of what this run has written
pub record LacksOutput (start now : Outside) (left : List ℕ) (run : Run) : Type 0 where
  pub input : run.input ≡ left
  pub front : ShowsFront start now run

-- After a turn the run goes on, or it ended, from this run on, with this input that is left. Where the client stopped it, the state is as it was left.
abbrev pub Turns : Launch → Outside → Outside → Machine → List ℕ → Run → Option Outcome → Type 0
Turns l start now machine left run None = IsAt machine start now left (step l run)
Turns l start now machine left run (Some InputFault) = LacksInput l start now left run
Turns l start now machine left run (Some OutputFault) = LacksOutput start now left run ⊎ LacksOutput start now left (step l run)
Turns l start now machine left run (Some (Done value)) = IsOver start now left (step l run) (Done value)
Turns l start now machine left run (Some Stopped) = IsOver start now left (step l run) Stopped × ((step l run).machine ≡ state_of machine.program)
Turns l start now machine left run (Some StackLimit) = IsOver start now left (step l run) StackLimit
Turns l start now machine left run (Some StepLimit) = IsOver start now left (step l run) StepLimit
Turns l start now machine left run (Some (Trap t)) = IsOver start now left (step l run) (Trap t)
Turns l start now machine left run (Some (Torn t)) = IsOver start now left (step l run) (Torn t)

-- In a turn these bytes of the input were taken. Each run that stood where the turn began, of which P holds, has turned, and has left what was behind these bytes.
pub record HasTurned (l : Launch) (begun now : Outside) (before after : Machine) (result : Option Outcome) (P : Run → Type 0) : Type 0 where
  pub bytes : List ℕ
  pub taken : HasTaken begun.input now.input before.input_ended after.input_ended bytes
  pub turns : (start : Outside) (run : Run) (rest : List ℕ) → MayBeLeft after.input_ended rest → IsAt before start begun (bytes ++ rest) run → P run →
      Turns l start now after rest run result

-- a turn fails where a call did
abbrev pub TurnFails : Outside → Outside → Option Outcome → Type 0
TurnFails before after None = NoneFailed before after
TurnFails before after (Some outcome) = Fails before after outcome
