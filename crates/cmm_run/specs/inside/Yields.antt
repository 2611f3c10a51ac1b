-- What a turn comes to at a yield.
use Rattle.std.specs.Prelude.{◌≡◌, ℕ, List, Option, Some, None}
use Rattle.rv_table.specs.Machine.{State}
use Rattle.cmm_outside.specs.Faults.{Rose}
use Rattle.cmm_outside.specs.Output.{Appends, AppendsFront}
use Rattle.cmm_program.specs.Commands.{Answer}
use Rattle.cmm_program.specs.Commands as client
use Rattle.cmm_walk.specs.Walking.{break_of}
use Rattle.cmm_client.specs.declared.yielding.Left.{Left}
use Rattle.cmm_client.specs.declared.yielding.Left.TheVariants as left
use Rattle.cmm_run.specs.declared.outcome.Outcome.{Outcome}
use Rattle.cmm_run.specs.declared.outcome.Outcome.TheVariants.{Done, Stopped, StackLimit, StepLimit, Trap, InputFault, OutputFault, Torn}

-- how a run ends that the client leaves so, if it does
abbrev pub ending_of : Left → Option Outcome
ending_of left.Running = None
ending_of left.Stopped = Some Stopped
ending_of (left.Torn t) = Some (Torn t)

-- The text of an answer is written, and the program is left in this state, unless the write fails.
abbrev pub AnswersWith : {Sink : Type 0} → Answer State State → State → (Sink → Option (List ℕ)) → (Sink → ℕ) → Sink → Sink → Option Outcome → Type 0
AnswersWith answer after taken faults old new None = (answer.left ≡ client.Running after) × Appends (taken old) (taken new) answer.text × (faults new ≡ faults old)
AnswersWith answer after taken faults old new (Some Stopped) =
    (answer.left ≡ client.Stopped after) × Appends (taken old) (taken new) answer.text × (faults new ≡ faults old)
AnswersWith answer after taken faults old new (Some (Torn t)) =
    (answer.left ≡ client.Torn (break_of t) after) × Appends (taken old) (taken new) answer.text × (faults new ≡ faults old)
AnswersWith answer after taken faults old new (Some OutputFault) = AppendsFront (taken old) (taken new) answer.text × Rose (faults old) (faults new)
AnswersWith answer after taken faults old new (Some (Done _)) = ⊥
AnswersWith answer after taken faults old new (Some StackLimit) = ⊥
AnswersWith answer after taken faults old new (Some StepLimit) = ⊥
AnswersWith answer after taken faults old new (Some (Trap _)) = ⊥
AnswersWith answer after taken faults old new (Some InputFault) = ⊥
