-- What one instruction, and n of them, leave of what was seen; and where a run is over.
use Rattle.std.proofs.Common.{ap, ◌≡◌, ◌≢◌, true, ℕ, zero, suc, ◌+◌, List, [], ◌∷◌, ◌++◌, Option, Some, None, refl, sym, ◌∙◌, append_assoc, zero-add, suc-add}
use Rattle.rv_table.specs.declared.request.Request.{Request}
use Rattle.rv_table.specs.declared.request.Request.TheVariants.{PutByte, GetByte, Yield, StackLimit, End}
use Rattle.rv_table.specs.Machine as rv
use Rattle.rv_table.specs.Machine.{State, instruction_step}
use Rattle.cmm_script.specs.Lines.{yield_line}
use Rattle.cmm_simulation.specs.Seen.{End as EndEvent}
use Rattle.cmm_simulation.specs.Machine.{after}
use Rattle.cmm_simulation.proofs.Runs.{one_end}
use Rattle.cmm_machine_laws.specs.Observed.{Ending}
use Rattle.cmm_simulation.proofs.Prefixes.{prefix_refl, prefix_more, within_refl, within_trans}
use Rattle.cmm_program.specs.Asking.{Break}
use Rattle.cmm_program.specs.Commands.{Left}
use Rattle.cmm_program.specs.Commands as client
use Rattle.cmm_image_machine.specs.Frames.{Element, chain_of}
use Rattle.cmm_image_machine.specs.Machine.{Launch, Run, Status, Running, Ended, Trapped, Torn, map_of, region_of, answered, left, yields, yielded_at, yielded, one_taken, goes_on, requested, after_instruction, step, steps_of, first_run, image_after}
use Rattle.cmm_image_machine.specs.Observed.{asked_at, event_at, has_failed, seen_of, image_machine}
use Rattle.cmm_image_machine.specs.Laws.{Grows, OverStays, StepGrows, RunGrows, InputIsKept, ImagesLast, RunsAreTheMachine, EndsOnce}

-- ---- over

over_stays_at : (l : Launch) (run : Run) (status : Status) → run.status ≡ status → status ≢ Running → step l run ≡ run
over_stays_at l run Running is not = absurd (not refl)
over_stays_at l run (Ended outcome) is not = rw is refl
over_stays_at l run (Trapped kind pc) is not = rw is refl
over_stays_at l run (Torn b) is not = rw is refl

pub over_stays : OverStays
over_stays l run not = over_stays_at l run run.status refl not

-- ---- one instruction

grows_refl : (run : Run) → Grows run run
grows_refl run = record { seen = within_refl (seen_of run); input = refl }

grows_trans : {a b c : Run} → Grows a b → Grows b c → Grows a c
grows_trans p q = record { seen = within_trans p.seen q.seen; input = q.input ∙ p.input }

-- the client leaves what was seen
left_grows : (f : Left State State) (before run : Run) → Grows before run → Grows before (left f run)
left_grows (client.Running s) before run g = record { seen = g.seen; input = g.input }
left_grows (client.Stopped s) before run g = record { seen = g.seen; input = g.input }
left_grows (client.Torn b s) before run g = record { seen = g.seen; input = g.input }

-- once more is logged
logs_more : (run : Run) (text more : List ℕ) → Grows run (record run { log = run.log ++ text ++ more })
logs_more run text more = record {
  seen = record {
    output = prefix_refl run.output;
    log = record { rest = text ++ more; whole = append_assoc run.log text more };
    taken = prefix_refl run.taken;
  };
  input = refl;
}

yields_grow : (l : Launch) (values : List ℕ) (run : Run) → Grows run (yields l values run)
yields_grow l values run = let answer = answered l values run.machine in
    left_grows answer.left run (record run { log = run.log ++ yield_line values ++ answer.text }) (logs_more run (yield_line values) answer.text)

yielded_grows : (l : Launch) (elements : List Element) (b : Option Break) (run : Run) →
    Grows run (yielded l (record { activations = elements; broken = b }) run)
yielded_grows l [] None run = yields_grow l [] run
yielded_grows l [] (Some b) run = record { seen = within_refl (seen_of run); input = refl }
yielded_grows l (e ∷ older) b run = yields_grow l (yielded_at (region_of l) run.machine (e ∷ older)) run

taken_grows : (m after : State) (input taken output log : List ℕ) (status : Status) →
    let run : Run = record { machine = m; input = input; taken = taken; output = output; log = log; status = status } in
    Grows run (record (one_taken run) { machine = after })
taken_grows m after [] taken output log status =
    record { seen = record { output = prefix_refl output; log = prefix_refl log; taken = prefix_refl taken }; input = refl }
taken_grows m after (byte ∷ rest) taken output log status = record {
  seen = record { output = prefix_refl output; log = prefix_refl log; taken = prefix_more taken (byte ∷ []) };
  input = append_assoc taken (byte ∷ []) rest;
}

requested_grows : (l : Launch) (run : Run) (r : Request) → Grows run (requested l run r)
requested_grows l run (PutByte byte) = record {
  seen = record { output = prefix_more run.output (byte ∷ []); log = prefix_refl run.log; taken = prefix_refl run.taken };
  input = refl;
}
requested_grows l run GetByte = taken_grows run.machine (requested l run GetByte).machine run.input run.taken run.output run.log run.status
requested_grows l run Yield = let after = goes_on run in let chain = chain_of l.image (region_of l) after.machine in
    let g = yielded_grows l chain.activations chain.broken after in record { seen = g.seen; input = g.input }
requested_grows l run StackLimit = record { seen = within_refl (seen_of run); input = refl }
requested_grows l run (End value) = record { seen = within_refl (seen_of run); input = refl }

after_grows : (l : Launch) (run : Run) (o : rv.Outcome) → Grows run (after_instruction l run o)
after_grows l run (rv.Next s) = record { seen = within_refl (seen_of run); input = refl }
after_grows l run (rv.Asks r) = requested_grows l run r
after_grows l run (rv.Traps kind) = record { seen = within_refl (seen_of run); input = refl }

step_grows_at : (l : Launch) (m : State) (input taken output log : List ℕ) (status : Status) →
    let run : Run = record { machine = m; input = input; taken = taken; output = output; log = log; status = status } in Grows run (step l run)
step_grows_at l m input taken output log Running = after_grows l _ (instruction_step (map_of l) m)
step_grows_at l m input taken output log (Ended outcome) = grows_refl _
step_grows_at l m input taken output log (Trapped kind pc) = grows_refl _
step_grows_at l m input taken output log (Torn b) = grows_refl _

pub step_grows : StepGrows
step_grows l run = step_grows_at l run.machine run.input run.taken run.output run.log run.status

-- ---- runs

steps_grow : (l : Launch) (n : ℕ) (run : Run) → Grows run (steps_of l n run)
steps_grow l zero run = grows_refl run
steps_grow l (suc n) run = grows_trans (step_grows l run) (steps_grow l n (step l run))

steps_join : (l : Launch) (m n : ℕ) (run : Run) → steps_of l (m + n) run ≡ steps_of l n (steps_of l m run)
steps_join l zero n run = rw (zero-add n) refl
steps_join l (suc m) n run = rw (suc-add m n) (steps_join l m n (step l run))

pub run_grows : RunGrows
run_grows l input m n = rw (steps_join l m n (first_run l input)) (steps_grow l n (image_after l input m))

pub input_kept : InputIsKept
input_kept l input n = (steps_grow l n (first_run l input)).input

-- ---- in the theory of following

asks_no_end : (l : Launch) (s : State) (o : rv.Outcome) (ending : Ending) → asked_at l s o ≡ Some (EndEvent ending) → ⊥
asks_no_end l s (rv.Next t) ending is = cc
asks_no_end l s (rv.Asks (PutByte byte)) ending is = cc
asks_no_end l s (rv.Asks GetByte) ending is = cc
asks_no_end l s (rv.Asks Yield) ending is = cc
asks_no_end l s (rv.Asks StackLimit) ending is = cc
asks_no_end l s (rv.Asks (End value)) ending is = cc
asks_no_end l s (rv.Traps kind) ending is = cc

over_at : (l : Launch) (m : State) (input taken output log : List ℕ) (status : Status) (ending : Ending) →
    let run : Run = record { machine = m; input = input; taken = taken; output = output; log = log; status = status } in
    event_at l m status ≡ Some (EndEvent ending) → (event_at l (step l run).machine (step l run).status ≡ Some (EndEvent ending)) × (seen_of (step l run) ≡ seen_of run)
over_at l m input taken output log Running ending is = absurd (asks_no_end l m (instruction_step (map_of l) m) ending is)
over_at l m input taken output log (Ended outcome) ending is = (is, refl)
over_at l m input taken output log (Trapped kind pc) ending is = absurd cc
over_at l m input taken output log (Torn b) ending is = absurd cc

failed_at : (l : Launch) (m : State) (input taken output log : List ℕ) (status : Status) →
    let run : Run = record { machine = m; input = input; taken = taken; output = output; log = log; status = status } in
    has_failed status ≡ true → has_failed (step l run).status ≡ true
failed_at l m input taken output log Running is = absurd cc
failed_at l m input taken output log (Ended outcome) is = absurd cc
failed_at l m input taken output log (Trapped kind pc) is = refl
failed_at l m input taken output log (Torn b) is = refl

pub images_last : ImagesLast
images_last l = record {
  grows = λ run. (step_grows l run).seen;
  over = λ run ending is. over_at l run.machine run.input run.taken run.output run.log run.status ending is;
  wrong = λ run is. failed_at l run.machine run.input run.taken run.output run.log run.status is;
}

after_next : (l : Launch) (n : ℕ) (run : Run) → after (image_machine l) n (step l run) ≡ step l (after (image_machine l) n run)
after_next l zero run = refl
after_next l (suc n) run = ap (step l) (after_next l n run)

same_after : (l : Launch) (n : ℕ) (run : Run) → after (image_machine l) n run ≡ steps_of l n run
same_after l zero run = refl
same_after l (suc n) run = sym (after_next l n run) ∙ same_after l n (step l run)

pub runs_are_the_machine : RunsAreTheMachine
runs_are_the_machine l input n = same_after l n (first_run l input)

pub ends_once : EndsOnce
ends_once l input first second m n is also =
    let run = first_run l input in
    let one : (image_machine l).asks (after (image_machine l) m run) ≡ Some (EndEvent first) = ap (image_machine l).asks (same_after l m run) ∙ is in
    let two : (image_machine l).asks (after (image_machine l) n run) ≡ Some (EndEvent second) = ap (image_machine l).asks (same_after l n run) ∙ also in
    one_end (image_machine l) (images_last l) first second m n run one two
