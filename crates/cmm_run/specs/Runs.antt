-- What a run comes to: what it writes, takes and answers.
use Rattle.std.specs.Prelude.{◌≡◌, ℕ, ◌<◌, ◌≤◌, List, IfSome, Some, None}
use Rattle.std.specs.List.{All}
use Rattle.rv_table.specs.declared.request.Request.TheVariants.{GetByte}
use Rattle.rv_table.specs.Machine as rv
use Rattle.rv_table.specs.Machine.{instruction_step}
use Rattle.cmm_outside.specs.Output.{Appends, AppendsFront}
use Rattle.cmm_program.specs.State as c
use Rattle.cmm_image_machine.specs.Machine as image
use Rattle.cmm_image_machine.specs.Machine.{Launch, Run, Status, Running, Ended, Trapped, map_of, image_after}
use Rattle.cmm_run.specs.declared.outcome.Outcome.{Outcome}
use Rattle.cmm_run.specs.declared.outcome.Outcome.TheVariants.{Done, Stopped, StackLimit, StepLimit, Trap, InputFault, OutputFault, Torn}
use Rattle.cmm_run.specs.Outside.{Outside, NoneFailed, InputFailed, OutputFailed}

-- the answer of a run that stands so when no more instructions are allowed
abbrev pub answer_of : Status → Outcome
answer_of Running = StepLimit
answer_of (Ended (c.Done value)) = Done value
answer_of (Ended c.Stopped) = Stopped
answer_of (Ended c.StackLimit) = StackLimit
answer_of (Trapped kind pc) = Trap record { kind = kind; pc = pc }
answer_of (image.Torn b) = Torn record { frame = b.frame; address = b.address }

-- Between these, output and log got all that a run has written, and the input, where it tells its bytes, has left what the run has.
pub record Shows (before after : Outside) (run : Run) : Type 0 where
  pub input : IfSome before.input (λ _. after.input ≡ Some run.input)
  pub output : Appends before.output after.output run.output
  pub log : Appends before.log after.log run.log

-- Output and log got a front of it each.
pub record ShowsFront (before after : Outside) (run : Run) : Type 0 where
  pub output : AppendsFront before.output after.output run.output
  pub log : AppendsFront before.log after.log run.log

-- the next instruction of a run takes from the input
pub record IsBeforeInput (l : Launch) (run : Run) : Type 0 where
  pub running : run.status ≡ Running
  pub asks : instruction_step (map_of l) run.machine ≡ rv.Asks GetByte

-- all that a run has written was written, and its answer is this one
pub record Ends (before after : Outside) (run : Run) (outcome : Outcome) : Type 0 where
  pub answer : outcome ≡ answer_of run.status
  pub shows : Shows before after run

-- A fault of the input comes where some state before the limit is to take from it, and all is written that was before. A fault of output or log comes
-- after a front of what is written. Any other answer is that of the state at the limit, in which a run stays that ended before.
abbrev pub Comes : Launch → ℕ → List ℕ → Outside → Outside → Outcome → Type 0
Comes l steps input before after InputFault =
    (n : ℕ) × (n < steps) × IsBeforeInput l (image_after l input n) × Shows before after (image_after l input n)
Comes l steps input before after OutputFault = ShowsFront before after (image_after l input steps)
Comes l steps input before after (Done value) = Ends before after (image_after l input steps) (Done value)
Comes l steps input before after Stopped = Ends before after (image_after l input steps) Stopped
Comes l steps input before after StackLimit = Ends before after (image_after l input steps) StackLimit
Comes l steps input before after StepLimit = Ends before after (image_after l input steps) StepLimit
Comes l steps input before after (Trap t) = Ends before after (image_after l input steps) (Trap t)
Comes l steps input before after (Torn t) = Ends before after (image_after l input steps) (Torn t)

-- a fault is answered where a call failed, and only there
abbrev pub Fails : Outside → Outside → Outcome → Type 0
Fails before after InputFault = InputFailed before after
Fails before after OutputFault = OutputFailed before after
Fails before after (Done value) = NoneFailed before after
Fails before after Stopped = NoneFailed before after
Fails before after StackLimit = NoneFailed before after
Fails before after StepLimit = NoneFailed before after
Fails before after (Trap t) = NoneFailed before after
Fails before after (Torn t) = NoneFailed before after

-- Where output or log failed, that was at some moment of the run: the two got a front of what was written by then, and the input has left what the run had then.
pub record FailsAt (l : Launch) (steps : ℕ) (input : List ℕ) (before after : Outside) : Type 0 where
  pub moment : ℕ
  pub within : moment ≤ steps
  pub left : IfSome before.input (λ _. after.input ≡ Some (image_after l input moment).input)
  pub shows : ShowsFront before after (image_after l input moment)

-- A run of an image within n instructions has this outcome: it is what the definition says of some input. That is the input that there is, where it tells its
-- bytes; another one, as a terminal, has given just the bytes of this input that the run took. A run that the client stopped stands in this state.
pub record Runs (l : Launch) (steps : ℕ) (before after : Outside) (outcome : Outcome) (machine : rv.State) : Type 0 where
  pub fails : Fails before after outcome
  pub input : List ℕ
  pub told : IfSome before.input (λ left. left ≡ input)
  pub bytes : before.input ≡ None → All (λ byte. byte < 256) input
  pub comes : Comes l steps input before after outcome
  pub failed : outcome ≡ OutputFault → FailsAt l steps input before after
  pub stopped : outcome ≡ Stopped → (image_after l input steps).machine ≡ machine
