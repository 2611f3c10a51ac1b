-- A yield, and the client's answer to it.
use Rattle.std.proofs.Common.{inr, ◌≡◌, ℕ, ◌+◌, List, [], ◌++◌, Option, Some, None, Result, Ok, refl, ap, sym, ◌∙◌, subst}
use Rattle.rv_table.specs.declared.request.Request.TheVariants.{Yield}
use Rattle.rv_table.specs.Machine as rv
use Rattle.rv_table.specs.Machine.{State, instruction_step}
use Rattle.cmm_outside.specs.Output.{Appends, AppendsFront, WritesAll}
use Rattle.cmm_outside.specs.declared.Failed.{Failed}
use Rattle.cmm_report.proofs.Shared.{appends_then, appends_then_front}
use Rattle.cmm_program.specs.Commands as client
use Rattle.cmm_program.specs.Commands.{Answer}
use Rattle.cmm_image_machine.specs.Changes.{at_pc}
use Rattle.cmm_image_machine.specs.Machine as image
use Rattle.cmm_image_machine.specs.Machine.{Launch, Run, map_of, region_of, goes_on, step}
use Rattle.cmm_client.specs.declared.yielding.Left.{Left}
use Rattle.cmm_client.specs.declared.yielding.Left.TheVariants as left
use Rattle.cmm_client.specs.Yields.{IsLeft, at_yield, run_behind}
use Rattle.cmm_client.proofs.Shared.{yields_are_answers}
use Rattle.cmm_client.specs.Stops.{state_of}
use Rattle.cmm_run.specs.declared.machine.Machine.{Machine}
use Rattle.cmm_run.specs.declared.outcome.Outcome.{Outcome}
use Rattle.cmm_run.specs.declared.outcome.Outcome.TheVariants as outcome
use Rattle.cmm_run.specs.Outside.{Outside}
use Rattle.cmm_run.specs.inside.Turns.{IsAt, IsOver, Turns}
use Rattle.cmm_run.specs.inside.Yields.{AnswersWith, ending_of}
use Rattle.cmm_run.proofs.Moving.{moved, moves_end}
use Rattle.cmm_run.proofs.Turning.{step_is, whole_front}

-- ---- what the client's answer comes to

module _ {Sink : Type 0} (taken : Sink → Option (List ℕ)) (faults : Sink → ℕ) (old new : Sink) (after : State) where
  left_by : (text : List ℕ) (to : client.Left State State) (l : Left) → WritesAll {Answer = Left} {Error = Failed} taken faults old new text (Ok l) → IsLeft to l after →
      AnswersWith (record { text = text; left = to }) after taken faults old new (ending_of l)
  left_by text (client.Running s) left.Running writes is = (ap client.Running (sym is), writes.ok, writes.no_fault)
  left_by text (client.Running s) left.Stopped writes is = absurd is
  left_by text (client.Running s) (left.Torn t) writes is = absurd is
  left_by text (client.Stopped s) left.Running writes is = absurd is
  left_by text (client.Stopped s) left.Stopped writes is = (ap client.Stopped (sym is), writes.ok, writes.no_fault)
  left_by text (client.Stopped s) (left.Torn t) writes is = absurd is
  left_by text (client.Torn b s) left.Running writes is = absurd is
  left_by text (client.Torn b s) left.Stopped writes is = absurd is
  left_by text (client.Torn b s) (left.Torn t) writes is = (λ i. client.Torn (is.0 i) (sym is.1 i), writes.ok, writes.no_fault)

  -- the client leaves the program
  pub leaves : (answer : Answer State State) (result : Result Left Failed) (l : Left) (o : Option Outcome) → result ≡ Ok l → WritesAll taken faults old new answer.text result →
      IsLeft answer.left l after → o ≡ ending_of l → AnswersWith answer after taken faults old new o
  leaves answer result l o was writes is ends =
      subst (λ (x : Option Outcome). AnswersWith answer after taken faults old new x) (sym ends)
      (left_by answer.text answer.left l (subst (λ (x : Result Left Failed). WritesAll taken faults old new answer.text x) was writes) is)

-- ---- the turn

-- the text of an answer is in the log, however it leaves the program
logged : (to : client.Left State State) (run : Run) → (image.left to run).log ≡ run.log
logged (client.Running s) run = refl
logged (client.Stopped s) run = refl
logged (client.Torn b s) run = refl

kept_input : (to : client.Left State State) (run : Run) → (image.left to run).input ≡ run.input
kept_input (client.Running s) run = refl
kept_input (client.Stopped s) run = refl
kept_input (client.Torn b s) run = refl

put_out : (to : client.Left State State) (run : Run) → (image.left to run).output ≡ run.output
put_out (client.Running s) run = refl
put_out (client.Stopped s) run = refl
put_out (client.Torn b s) run = refl

module _ {Sink : Type 0} (taken : Sink → Option (List ℕ)) (faults : Sink → ℕ) (old new : Sink) (l : Launch) (start before after : Outside) (machine next : Machine) (rest : List ℕ) (run : Run)
    (at : IsAt machine start before rest run) (none_waits : machine.waiting ≡ []) (none_waits_then : next.waiting ≡ [])
    (was : before.log ≡ taken old) (is_now : after.log ≡ taken new) (output : after.output ≡ before.output) where
  output_shown : Appends start.output after.output run.output
  output_shown = subst (λ (told : Option (List ℕ)). Appends start.output told run.output) (sym output)
      (moves_end start.output before.output run.output machine.waiting none_waits at.written.output)

  log_shown : (text : List ℕ) → Appends (taken old) (taken new) text → Appends start.log after.log (run.log ++ text)
  log_shown text log = appends_then start.log before.log after.log run.log text at.written.log (rw (was, is_now) log)

  behind : List ℕ → client.Left State State → Run
  behind text to = image.left to record (goes_on run) { log = run.log ++ text }

  turn_by : (text : List ℕ) (to : client.Left State State) (o : Option Outcome) → step l run ≡ behind text to →
      AnswersWith (record { text = text; left = to }) (state_of next.program) taken faults old new o → Turns l start after next rest run o
  unfolding behind
  turn_by text to None is answers =
      subst (λ (r : Run). IsAt next start after rest r) (sym (is ∙ ap (behind text) answers.0)) record {
        running = at.running;
        machine_is = refl;
        input = at.input;
        written = record { output = moved start.output after.output run.output next.waiting none_waits_then output_shown; log = log_shown text answers.1 };
      }
  turn_by text to (Some outcome.Stopped) is answers =
      subst (λ (r : Run). IsOver start after rest r outcome.Stopped × (r.machine ≡ state_of next.program)) (sym (is ∙ ap (behind text) answers.0)) (
        record { over = λ e. absurd (cc e); answer = refl; input = at.input; shown = record { output = output_shown; log = log_shown text answers.1 } },
        refl,
      )
  turn_by text to (Some (outcome.Torn t)) is answers =
      subst (λ (r : Run). IsOver start after rest r (outcome.Torn t)) (sym (is ∙ ap (behind text) answers.0)) record {
        over = λ e. absurd (cc e);
        answer = refl;
        input = at.input;
        shown = record { output = output_shown; log = log_shown text answers.1 };
      }
  turn_by text to (Some outcome.OutputFault) is answers =
      let here : Run = record (goes_on run) { log = run.log ++ text } in
      inr record {
        input = ap (λ (r : Run). r.input) is ∙ kept_input to here ∙ at.input;
        front = record {
          output = subst (AppendsFront start.output after.output) (sym (ap (λ (r : Run). r.output) is ∙ put_out to here)) (whole_front start.output after.output run.output output_shown);
          log = subst (AppendsFront start.log after.log) (sym (ap (λ (r : Run). r.log) is ∙ logged to here))
              (appends_then_front start.log before.log after.log run.log text at.written.log (rw (was, is_now) answers.0));
        };
      }
  turn_by text to (Some (outcome.Done value)) is answers = absurd answers
  turn_by text to (Some outcome.StackLimit) is answers = absurd answers
  turn_by text to (Some outcome.StepLimit) is answers = absurd answers
  turn_by text to (Some (outcome.Trap t)) is answers = absurd answers
  turn_by text to (Some outcome.InputFault) is answers = absurd answers

  -- registers and memory are those of the machine once it went on, and the client's answer is given
  pub yield_turn : (s : State) (o : Option Outcome) → instruction_step (map_of l) run.machine ≡ rv.Asks Yield → s ≡ at_pc ((state_of machine.program).pc + 4) (state_of machine.program) →
      AnswersWith (at_yield l.image (region_of l) l.script s) (state_of next.program) taken faults old new o → Turns l start after next rest run o
  unfolding behind
  yield_turn s o asks state answers =
      let here : (goes_on run).machine ≡ s = ap (λ (t : State). at_pc (t.pc + 4) t) at.machine_is ∙ sym state in
      let answer = at_yield l.image (region_of l) l.script s in
      turn_by answer.text answer.left o
      (step_is l run (rv.Asks Yield) at.running asks ∙ yields_are_answers l (goes_on run)
      ∙ ap (λ (t : State). run_behind (at_yield l.image (region_of l) l.script t) (goes_on run)) here) answers
