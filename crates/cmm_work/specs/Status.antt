-- Exit statuses.
use Rattle.std.specs.Prelude.{ℕ}
use Rattle.cmm_run.specs.declared.outcome.Outcome.{Outcome}
use Rattle.cmm_run.specs.declared.outcome.Outcome.TheVariants as outcome
use Rattle.cmm_work.specs.declared.status.Status.{Status}
use Rattle.cmm_work.specs.declared.status.Status.TheVariants.{Done, Usage, Refused, BadImage, Stopped, StackLimit, StepLimit, Trap, FileFault, InputFault, OutputFault, Memory, BadSnapshot, BadScript, Torn, BadElf}

abbrev pub number_of : Status → ℕ
number_of Done = 0
number_of Usage = 2
number_of Refused = 3
number_of BadImage = 4
number_of Stopped = 5
number_of StackLimit = 6
number_of StepLimit = 7
number_of Trap = 8
number_of FileFault = 9
number_of InputFault = 10
number_of OutputFault = 11
number_of Memory = 12
number_of BadSnapshot = 13
number_of BadScript = 14
number_of Torn = 15
number_of BadElf = 17

-- that of a run
abbrev pub status_of : Outcome → Status
status_of (outcome.Done value) = Done
status_of outcome.Stopped = Stopped
status_of outcome.StackLimit = StackLimit
status_of outcome.StepLimit = StepLimit
status_of (outcome.Trap trap) = Trap
status_of outcome.InputFault = InputFault
status_of outcome.OutputFault = OutputFault
status_of (outcome.Torn torn) = Torn
