-- Whole runs, turn by turn.
use Rattle.std.proofs.Common.{◌≡◌, ℕ, suc, ◌+◌, ◌<◌, Bool, List, [], ◌++◌, Option, Some, None, IfSome, inl, inr, ap, refl, sym, ◌∙◌, subst, arith, append-nil, append_assoc}
use Rattle.std.specs.List.{All}
use Rattle.std.proofs.lemmas.List.Elements.{All-nil, All-append}
use Rattle.rv_table.specs.Machine.{State}
use Rattle.cmm_outside.specs.Output.{Appends, AppendsFront}
use Rattle.cmm_image_machine.specs.Machine.{Launch, Run, step, image_after}
use Rattle.cmm_client.specs.Stops.{state_of}
use Rattle.cmm_run.specs.declared.machine.Machine.{Machine}
use Rattle.cmm_run.specs.declared.outcome.Outcome.{Outcome}
use Rattle.cmm_run.specs.declared.outcome.Outcome.TheVariants.{Done, Stopped, StackLimit, StepLimit, Trap, InputFault, OutputFault, Torn}
use Rattle.cmm_run.specs.Outside.{Outside, NoneFailed}
use Rattle.cmm_run.specs.Runs.{Comes, Ends, Fails, FailsAt, Runs, ShowsFront, answer_of}
use Rattle.cmm_run.specs.inside.Loading.{IsReady}
use Rattle.cmm_run.specs.inside.Takes.{MayBeLeft}
use Rattle.cmm_run.specs.inside.Turns.{HasTurned, IsAt, IsOver, TurnFails, Turns}
use Rattle.cmm_run.specs.inside.Waits.{Closes}
use Rattle.cmm_run.proofs.Moving.{moves_all, moves_front}
use Rattle.cmm_run.proofs.Turning.{whole_front}
use Rattle.cmm_run.proofs.Steps.{front_until, stays_until, step_last}

-- an input that tells its bytes has given those that were taken, and has these left
pub record IsTold (start now : Outside) (ended : Bool) (taken input : List ℕ) : Type 0 where
  pub left : List ℕ
  pub now_is : now.input ≡ Some left
  pub whole : input ≡ taken ++ left
  pub may : MayBeLeft ended left

-- n turns were done in which these bytes were taken, and the run goes on, whatever is left of the input
pub record HasRun (l : Launch) (start now : Outside) (machine : Machine) (count : ℕ) : Type 0 where
  pub fails : NoneFailed start now
  pub taken : List ℕ
  pub bytes : All (λ byte. byte < 256) taken
  pub told : (input : List ℕ) → start.input ≡ Some input → IsTold start now machine.input_ended taken input
  pub at : (rest : List ℕ) → MayBeLeft machine.input_ended rest → IsAt machine start now rest (image_after l (taken ++ rest) count)

-- ---- before the first turn

nothing_more : (told : Option (List ℕ)) → Appends told told []
nothing_more None = tt
nothing_more (Some bytes) = ap Some (sym (append-nil bytes))

pub has_begun : (l : Launch) (start : Outside) (machine : Machine) → IsReady l machine → HasRun l start start machine 0
has_begun l start machine ready = record {
  fails = record { input = refl; output = refl; log = refl };
  taken = [];
  bytes = All-nil (λ (byte : ℕ). byte < 256);
  told = λ input is. record { left = input; now_is = is; whole = refl; may = λ ended. absurd (cc (ended, ready.has_input)) };
  at = λ rest may. record {
    running = refl;
    machine_is = ready.first;
    input = refl;
    written = record {
      output = record { written = []; parts = sym ready.none_waits; appended = nothing_more start.output };
      log = nothing_more start.log;
    };
  };
}

-- ---- one turn more

none_then : (start mid now : Outside) → NoneFailed start mid → NoneFailed mid now → NoneFailed start now
none_then start mid now first second = record {
  input = second.input ∙ first.input;
  output = second.output ∙ first.output;
  log = second.log ∙ first.log;
}

module _ (l : Launch) (start mid now : Outside) (machine next : Machine) (count : ℕ) (o : Option Outcome) (run : HasRun l start mid machine count)
    (turned : HasTurned l mid now machine next o (λ _. Unit {0})) where
  -- the bytes that were taken once it has turned
  taken_then : List ℕ
  taken_then = run.taken ++ turned.bytes

  bytes_then : All (λ byte. byte < 256) taken_then
  unfolding taken_then
  bytes_then = All-append (λ (byte : ℕ). byte < 256) run.taken turned.bytes run.bytes turned.taken.bytes

  told_then : (input : List ℕ) → start.input ≡ Some input → IsTold start now next.input_ended taken_then input
  unfolding taken_then
  told_then input is =
      let t = run.told input is in
      let (rest, parts, now_is, may) = turned.taken.told t.left t.now_is t.may in record {
        left = rest;
        now_is = now_is;
        whole = t.whole ∙ ap (λ (xs : List ℕ). run.taken ++ xs) parts ∙ sym (append_assoc run.taken turned.bytes rest);
        may = may;
      }

  -- what may be left behind the turn may be left before it, behind the bytes that it took
  may_before : (rest : List ℕ) → MayBeLeft next.input_ended rest → MayBeLeft machine.input_ended (turned.bytes ++ rest)
  may_before rest may ended =
      let (none, still) = turned.taken.still ended in ap (λ (xs : List ℕ). xs ++ rest) none ∙ may still

  turns_at : (rest : List ℕ) → MayBeLeft next.input_ended rest → Turns l start now next rest (image_after l (taken_then ++ rest) count) o
  unfolding taken_then
  turns_at rest may =
      subst (λ (input : List ℕ). Turns l start now next rest (image_after l input count) o) (sym (append_assoc run.taken turned.bytes rest))
      (turned.turns start (image_after l (run.taken ++ (turned.bytes ++ rest)) count) rest may (run.at (turned.bytes ++ rest) (may_before rest may)) tt)

pub has_run_more : (l : Launch) (start mid now : Outside) (machine next : Machine) (count : ℕ) (o : Option Outcome) → o ≡ None → HasRun l start mid machine count →
    TurnFails mid now o → HasTurned l mid now machine next o (λ _. Unit {0}) → HasRun l start now next (count + 1)
has_run_more l start mid now machine next count (Some outcome) is run fails turned = absurd (cc is)
has_run_more l start mid now machine next count None is run fails turned = record {
  fails = none_then start mid now run.fails fails;
  taken = taken_then l start mid now machine next count None run turned;
  bytes = bytes_then l start mid now machine next count None run turned;
  told = told_then l start mid now machine next count None run turned;
  at = λ rest may.
      let input = taken_then l start mid now machine next count None run turned ++ rest in
      let one : count + 1 ≡ suc count = omega arith in
      subst (IsAt next start now rest) (sym (ap (image_after l input) one ∙ step_last l input count)) (turns_at l start mid now machine next count None run turned rest may);
}

-- ---- the end

fails_then : (start mid now : Outside) (o : Outcome) → NoneFailed start mid → Fails mid now o → Fails start now o
fails_then start mid now (Done value) first second = none_then start mid now first second
fails_then start mid now Stopped first second = none_then start mid now first second
fails_then start mid now StackLimit first second = none_then start mid now first second
fails_then start mid now StepLimit first second = none_then start mid now first second
fails_then start mid now (Trap t) first second = none_then start mid now first second
fails_then start mid now (Torn t) first second = none_then start mid now first second
fails_then start mid now InputFault first second =
    record { input = rw (← first.input) second.input; output = second.output ∙ first.output; log = second.log ∙ first.log }
fails_then start mid now OutputFault first second = record { input = second.input ∙ first.input; output = rw (← first.output, ← first.log) second.output }

-- the input of a run, of which these bytes were taken: where it is told, that which there was, and what it tells is left; else these bytes
record IsInput (start now : Outside) (ended : Bool) (taken : List ℕ) : Type 0 where
  left : List ℕ
  may : MayBeLeft ended left
  told : IfSome start.input (λ input. input ≡ taken ++ left)
  now_is : IfSome start.input (λ _. now.input ≡ Some left)
  bytes : start.input ≡ None → All (λ byte. byte < 256) (taken ++ left)

input_of : (start now : Outside) (ended : Bool) (taken : List ℕ) (told : Option (List ℕ)) → start.input ≡ told → All (λ byte. byte < 256) taken →
    ((input : List ℕ) → start.input ≡ Some input → IsTold start now ended taken input) → IsInput start now ended taken
input_of start now ended taken None is bytes tells = record {
  left = [];
  may = λ _. refl;
  told = subst (λ (t : Option (List ℕ)). IfSome t (λ input. input ≡ taken ++ [])) (sym is) tt;
  now_is = subst (λ (t : Option (List ℕ)). IfSome t (λ _. now.input ≡ Some [])) (sym is) tt;
  bytes = λ _. All-append (λ (byte : ℕ). byte < 256) taken [] bytes (All-nil (λ (byte : ℕ). byte < 256));
}
input_of start now ended taken (Some input) is bytes tells =
    let t = tells input is in record {
      left = t.left;
      may = t.may;
      told = subst (λ (s : Option (List ℕ)). IfSome s (λ i. i ≡ taken ++ t.left)) (sym is) t.whole;
      now_is = subst (λ (s : Option (List ℕ)). IfSome s (λ _. now.input ≡ Some t.left)) (sym is) t.now_is;
      bytes = λ none. absurd (cc (none, is));
    }

module _ (l : Launch) (start now : Outside) (machine : Machine) (input left : List ℕ) (count limit : ℕ) (below : count < limit)
    (now_is : IfSome start.input (λ _. now.input ≡ Some left)) where
  -- what the input tells is what the run has left
  left_told : (run : Run) → run.input ≡ left → IfSome start.input (λ _. now.input ≡ Some run.input)
  left_told run is = subst (λ (xs : List ℕ). IfSome start.input (λ _. now.input ≡ Some xs)) (sym is) now_is

  -- a run that ended after this turn stands so at the limit
  at_limit : (o : Outcome) → IsOver start now left (step l (image_after l input count)) o → step l (image_after l input count) ≡ image_after l input limit
  at_limit o over =
      let next : step l (image_after l input count) ≡ image_after l input (suc count) = sym (step_last l input count) in
      let after : IsOver start now left (image_after l input (suc count)) o = subst (λ (run : Run). IsOver start now left run o) next over in
      next ∙ stays_until l input (suc count) limit (omega arith) after.over

  ends : (o : Outcome) → IsOver start now left (step l (image_after l input count)) o → Ends start now (image_after l input limit) o
  ends o over =
      let run = step l (image_after l input count) in
      subst (λ (run : Run). Ends start now run o) (at_limit o over)
      record { answer = over.answer; shows = record { input = left_told run over.input; output = over.shown.output; log = over.shown.log } }

  comes : (o : Outcome) → Turns l start now machine left (image_after l input count) (Some o) → Comes l limit input start now o
  comes (Done value) turned = ends (Done value) turned
  comes Stopped turned = ends Stopped turned.0
  comes StackLimit turned = ends StackLimit turned
  comes StepLimit turned = ends StepLimit turned
  comes (Trap t) turned = ends (Trap t) turned
  comes (Torn t) turned = ends (Torn t) turned
  comes InputFault turned = (
    count,
    below,
    turned.before,
    record { input = left_told (image_after l input count) turned.input; output = turned.shown.output; log = turned.shown.log },
  )
  comes OutputFault (inl before) = front_until l input start now count limit (omega (arith, below)) before.front
  comes OutputFault (inr behind) = front_until l input start now (suc count) limit (omega arith) (rw (step_last l input count) behind.front)

  failed : (o : Outcome) → Turns l start now machine left (image_after l input count) (Some o) → o ≡ OutputFault → FailsAt l limit input start now
  failed OutputFault (inl before) is = record {
    moment = count;
    within = omega (arith, below);
    left = left_told (image_after l input count) before.input;
    shows = before.front;
  }
  failed OutputFault (inr behind) is =
      let last = step_last l input count in record {
        moment = suc count;
        within = omega (arith, below);
        left = left_told (image_after l input (suc count)) (subst (λ (run : Run). run.input ≡ left) (sym last) behind.input);
        shows = subst (ShowsFront start now) (sym last) behind.front;
      }
  failed (Done value) turned is = absurd (cc is)
  failed Stopped turned is = absurd (cc is)
  failed StackLimit turned is = absurd (cc is)
  failed StepLimit turned is = absurd (cc is)
  failed (Trap t) turned is = absurd (cc is)
  failed (Torn t) turned is = absurd (cc is)
  failed InputFault turned is = absurd (cc is)

  stands : (o : Outcome) → Turns l start now machine left (image_after l input count) (Some o) → o ≡ Stopped →
      (image_after l input limit).machine ≡ state_of machine.program
  stands Stopped turned is = ap (λ (run : Run). run.machine) (sym (at_limit Stopped turned.0)) ∙ turned.1
  stands (Done value) turned is = absurd (cc is)
  stands StackLimit turned is = absurd (cc is)
  stands StepLimit turned is = absurd (cc is)
  stands (Trap t) turned is = absurd (cc is)
  stands (Torn t) turned is = absurd (cc is)
  stands InputFault turned is = absurd (cc is)
  stands OutputFault turned is = absurd (cc is)

pub run_over : (l : Launch) (start mid now : Outside) (machine next : Machine) (count limit : ℕ) (outcome : Outcome) (o : Option Outcome) → o ≡ Some outcome →
    count < limit → HasRun l start mid machine count → TurnFails mid now o → HasTurned l mid now machine next o (λ _. Unit {0}) →
    Runs l limit start now outcome (state_of next.program)
run_over l start mid now machine next count limit outcome None is below run fails turned = absurd (cc is)
run_over l start mid now machine next count limit outcome (Some other) is below run fails turned =
    let same : other ≡ outcome = cc is in
    let taken = taken_then l start mid now machine next count (Some other) run turned in
    let input = input_of start now next.input_ended taken start.input refl (bytes_then l start mid now machine next count (Some other) run turned)
    (told_then l start mid now machine next count (Some other) run turned) in
    let turns = turns_at l start mid now machine next count (Some other) run turned input.left input.may in
    subst (λ (x : Outcome). Runs l limit start now x (state_of next.program)) same record {
      fails = fails_then start mid now other run.fails fails;
      input = taken ++ input.left;
      told = input.told;
      bytes = input.bytes;
      comes = comes l start now next (taken ++ input.left) input.left count limit below input.now_is other turns;
      failed = failed l start now next (taken ++ input.left) input.left count limit below input.now_is other turns;
      stopped = stands l start now next (taken ++ input.left) input.left count limit below input.now_is other turns;
    }

-- where no instruction is left, the run goes on, and what waits is written
module _ {Sink : Type 0} (taken : Sink → Option (List ℕ)) (faults : Sink → ℕ) (old new : Sink) (l : Launch) (start before after : Outside) (machine : Machine)
    (limit : ℕ) (has_run : HasRun l start before machine limit) (was : before.output ≡ taken old) (is : after.output ≡ taken new)
    (input : after.input ≡ before.input) (log : after.log ≡ before.log) (state : State) where
  found : IsInput start before machine.input_ended has_run.taken
  found = input_of start before machine.input_ended has_run.taken start.input refl has_run.bytes has_run.told

  whole : List ℕ
  whole = has_run.taken ++ found.left

  stands_at : IsAt machine start before found.left (image_after l whole limit)
  unfolding whole
  stands_at = has_run.at found.left found.may

  input_told : IfSome start.input (λ _. after.input ≡ Some (image_after l whole limit).input)
  input_told = subst (λ (xs : List ℕ). IfSome start.input (λ _. after.input ≡ Some xs)) (sym stands_at.input)
      (subst (λ (told : Option (List ℕ)). IfSome start.input (λ _. told ≡ Some found.left)) (sym input) found.now_is)

  limited : Appends before.output after.output machine.waiting → Ends start after (image_after l whole limit) StepLimit
  limited appended = record {
    answer = ap answer_of (sym stands_at.running);
    shows = record {
      input = input_told;
      output = moves_all start.output before.output after.output (image_after l whole limit).output machine.waiting stands_at.written.output appended;
      log = subst (λ (had : Option (List ℕ)). Appends start.log had (image_after l whole limit).log) (sym log) stands_at.written.log;
    };
  }

  shows_front : AppendsFront before.output after.output machine.waiting → ShowsFront start after (image_after l whole limit)
  shows_front front = record {
    output = moves_front start.output before.output after.output (image_after l whole limit).output machine.waiting stands_at.written.output front;
    log = whole_front start.log after.log (image_after l whole limit).log
        (subst (λ (had : Option (List ℕ)). Appends start.log had (image_after l whole limit).log) (sym log) stands_at.written.log);
  }

  pub run_limited : before.output_faults ≡ faults old → after.output_faults ≡ faults new → after.input_faults ≡ before.input_faults →
      after.log_faults ≡ before.log_faults → (result : Outcome) → Closes taken faults old new machine.waiting StepLimit result → Runs l limit start after result state
  unfolding whole
  run_limited had has in_same log_same result (inl (same, appended, none)) = subst (λ (x : Outcome). Runs l limit start after x state) (sym same) record {
    fails = record { input = in_same ∙ has_run.fails.input; output = has ∙ none ∙ sym had ∙ has_run.fails.output; log = log_same ∙ has_run.fails.log };
    input = whole;
    told = found.told;
    bytes = found.bytes;
    comes = limited (rw (was, is) appended);
    failed = λ e. absurd (cc e);
    stopped = λ e. absurd (cc e);
  }
  run_limited had has in_same log_same result (inr (same, front, rose)) = subst (λ (x : Outcome). Runs l limit start after x state) (sym same) record {
    fails = record {
      input = in_same ∙ has_run.fails.input;
      output = inl (rw (← has_run.fails.output, had, has) rose, log_same ∙ has_run.fails.log);
    };
    input = whole;
    told = found.told;
    bytes = found.bytes;
    comes = shows_front (rw (was, is) front);
    failed = λ _. record { moment = limit; within = omega arith; left = input_told; shows = shows_front (rw (was, is) front) };
    stopped = λ e. absurd (cc e);
  }
