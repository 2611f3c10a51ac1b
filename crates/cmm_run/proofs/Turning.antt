-- One turn of a run, by what its instruction comes to.
use Rattle.std.proofs.Common.{◌≡◌, ◌≢◌, ◌⊎◌, ℕ, ◌<◌, ◌+◌, Bool, List, [], ◌∷◌, ◌++◌, drop, length, Option, Some, None, inl, inr, refl, ap, sym, ◌∙◌, subst, arith}
use Rattle.std.proofs.lemmas.List.Elements.{All-nil}
use Rattle.std.proofs.lemmas.List.{take_all}
use Rattle.cmm_abi.specs.declared.registers.TheConstants.{REQUEST_VALUE}
use Rattle.rv_table.specs.declared.request.Request.{Request}
use Rattle.rv_table.specs.declared.request.Request.TheVariants.{PutByte, GetByte, StackLimit, End}
use Rattle.rv_table.specs.declared.trap.Trap.{Trap}
use Rattle.rv_table.specs.Machine as rv
use Rattle.rv_table.specs.Machine.{State, MemoryMap, instruction_step, with_set}
use Rattle.rv_sim.specs.declared.event.Event.TheVariants as event
use Rattle.rv_sim.specs.Stepping.{event_of, outcome_of}
use Rattle.cmm_outside.specs.Output.{Appends, AppendsFront}
use Rattle.cmm_program.specs.Performing.{next_byte}
use Rattle.cmm_program.specs.State as c
use Rattle.cmm_image_machine.specs.Changes.{at_pc}
use Rattle.cmm_image_machine.specs.Machine.{Launch, Run, Status, Running, Ended, Trapped, map_of, one_taken, after_instruction, step}
use Rattle.cmm_client.specs.declared.stopped.Stopped.{Stopped}
use Rattle.cmm_client.specs.Stops as stops
use Rattle.cmm_client.specs.Stops.{state_of}
use Rattle.cmm_run.specs.declared.machine.Machine.{Machine}
use Rattle.cmm_run.specs.declared.outcome.Outcome.{Outcome}
use Rattle.cmm_run.specs.declared.outcome.Outcome.TheVariants as outcome
use Rattle.cmm_run.specs.Outside.{Outside}
use Rattle.cmm_run.specs.Runs.{answer_of}
use Rattle.cmm_run.specs.inside.Takes.{HasTaken, Takes}
use Rattle.cmm_run.specs.inside.Turns.{HasTurned, IsAt, IsOver, IsWritten, LacksInput, LacksOutput, Turns}
use Rattle.cmm_run.specs.inside.Waits.{Closes, Moves}
use Rattle.cmm_run.proofs.Moving.{moved, moves_all, moves_end, moves_front, moves_more}

-- ---- what the instruction comes to

pub step_is : (l : Launch) (run : Run) (o : rv.Outcome) → run.status ≡ Running → instruction_step (map_of l) run.machine ≡ o → step l run ≡ after_instruction l run o
step_is l run o running is = running_step ∙ ap (after_instruction l run) is
  where
    running_step : step l run ≡ after_instruction l run (instruction_step (map_of l) run.machine)
    running_step = rw running refl

-- what comes of the instruction at pc
abbrev pub outcome_in : Stopped → rv.Outcome
outcome_in s = outcome_of s.thread.regs s.thread.memory

-- the instruction is that of the program
pub at_outcome : (l : Launch) (machine : Machine) (start now : Outside) (left : List ℕ) (run : Run) → stops.map_of machine.program ≡ map_of l → IsAt machine start now left run →
    instruction_step (map_of l) run.machine ≡ outcome_in machine.program
at_outcome l machine start now left run map at =
    ap (instruction_step (map_of l)) at.machine_is ∙ ap (λ (m : MemoryMap). instruction_step m (state_of machine.program)) (sym map)

pub trap_of : (pc : ℕ) (t : Trap) (o : rv.Outcome) → event_of pc o ≡ event.Trap t → (o ≡ rv.Traps t.kind) × (t.pc ≡ pc)
trap_of pc t (rv.Next s) is = absurd (cc is)
trap_of pc t (rv.Asks r) is = absurd (cc is)
trap_of pc t (rv.Traps kind) is = (cc, cc)

pub asks_of : (pc : ℕ) (o : rv.Outcome) (r : Request) → event_of pc o ≡ event.Asks r → o ≡ rv.Asks r
asks_of pc (rv.Next s) r is = absurd (cc is)
asks_of pc (rv.Asks q) r is = cc
asks_of pc (rv.Traps kind) r is = absurd (cc is)

-- all is a front
pub whole_front : (before after : Option (List ℕ)) (xs : List ℕ) → Appends before after xs → AppendsFront before after xs
whole_front before after xs all = (length xs, omega arith, subst (Appends before after) (sym (take_all (length xs) xs (omega arith))) all)

-- ---- what a turn takes of the input

-- nothing, where the source was not asked
pub takes_none : (before after : Option (List ℕ)) (ended ended_then : Bool) → after ≡ before → ended_then ≡ ended → HasTaken before after ended ended_then []
takes_none before after ended ended_then same still = record {
  told = λ left is may. (left, refl, same ∙ is, λ e. may (sym still ∙ e));
  bytes = All-nil (λ (byte : ℕ). byte < 256);
  still = λ e. (refl, still ∙ e);
}

-- a turn that takes nothing
pub turns_without : (l : Launch) (begun now : Outside) (before after : Machine) (result : Option Outcome) (P : Run → Type 0) → now.input ≡ begun.input →
    after.input_ended ≡ before.input_ended →
    ((start : Outside) (run : Run) (left : List ℕ) → IsAt before start begun left run → P run → Turns l start now after left run result) →
    HasTurned l begun now before after result P
turns_without l begun now before after result P same still turns = record {
  bytes = [];
  taken = takes_none begun.input now.input before.input_ended after.input_ended same still;
  turns = λ start run rest may at holds. turns start run rest at holds;
}

-- ---- the run is over

-- what waits is written, and the outcome stands, or that fails
module _ {Sink : Type 0} (taken : Sink → Option (List ℕ)) (faults : Sink → ℕ) (old new : Sink) (before after : Outside) (was : before.output ≡ taken old)
    (is : after.output ≡ taken new) (waiting : List ℕ) (ending result : Outcome) where
  pub closes_turn : (l : Launch) (start : Outside) (next : Machine) (left : List ℕ) (run : Run) →
      (IsOver start after left (step l run) ending → Turns l start after next left run (Some ending)) → (step l run).status ≢ Running →
      ending ≡ answer_of (step l run).status → (step l run).input ≡ left → IsWritten waiting start before (step l run) → after.log ≡ before.log →
      Closes taken faults old new waiting ending result → Turns l start after next left run (Some result)
  closes_turn l start next left run stands over answer input written log (inl (same, appended, _)) =
      subst (λ (o : Outcome). Turns l start after next left run (Some o)) (sym same) (stands record {
        over = over;
        answer = answer;
        input = input;
        shown = record {
          output = moves_all start.output before.output after.output (step l run).output waiting written.output (rw (was, is) appended);
          log = subst (λ (told : Option (List ℕ)). Appends start.log told (step l run).log) (sym log) written.log;
        };
      })
  closes_turn l start next left run stands over answer input written log (inr (same, front, _)) =
      subst (λ (o : Outcome). Turns l start after next left run (Some o)) (sym same) (inr record {
        input = input;
        front = record {
          output = moves_front start.output before.output after.output (step l run).output waiting written.output (rw (was, is) front);
          log = whole_front start.log after.log (step l run).log (subst (λ (told : Option (List ℕ)). Appends start.log told (step l run).log) (sym log) written.log);
        };
      })

module _ {Sink : Type 0} (taken : Sink → Option (List ℕ)) (faults : Sink → ℕ) (old new : Sink) (l : Launch) (start before after : Outside) (machine next : Machine)
    (left : List ℕ) (run : Run) (at : IsAt machine start before left run) (was : before.output ≡ taken old) (is : after.output ≡ taken new)
    (log : after.log ≡ before.log) (result : Outcome) where
  -- the state once the instruction ended the run is the same, but that it is over
  ended_is : (status : Status) → step l run ≡ record run { status = status } → IsWritten machine.waiting start before (step l run)
  ended_is status stepped = subst (IsWritten machine.waiting start before) (sym stepped) record { output = at.written.output; log = at.written.log }

  ended_over : (status : Status) (ending : Outcome) → step l run ≡ record run { status = status } → status ≢ Running → ending ≡ answer_of status →
      (IsOver start after left (step l run) ending → Turns l start after next left run (Some ending)) →
      Closes taken faults old new machine.waiting ending result → Turns l start after next left run (Some result)
  ended_over status ending stepped over answer stands closes =
      let same : status ≡ (step l run).status = ap (λ (r : Run). r.status) (sym stepped) in
      closes_turn taken faults old new before after was is machine.waiting ending result l start next left run stands (λ e. over (same ∙ e))
      (answer ∙ ap answer_of same) (ap (λ (r : Run). r.input) stepped ∙ at.input) (ended_is status stepped) log closes

  pub trap_turn : (t : Trap) → instruction_step (map_of l) run.machine ≡ rv.Traps t.kind → t.pc ≡ (state_of machine.program).pc →
      Closes taken faults old new machine.waiting (outcome.Trap t) result → Turns l start after next left run (Some result)
  trap_turn t traps pc closes =
      let same : run.machine.pc ≡ (state_of machine.program).pc = ap (λ (s : State). s.pc) at.machine_is in
      ended_over (Trapped t.kind run.machine.pc) (outcome.Trap t) (step_is l run (rv.Traps t.kind) at.running traps) (λ e. absurd (cc e))
      (λ i. outcome.Trap record { kind = t.kind; pc = (pc ∙ sym same) i }) (λ o. o) closes

  pub limit_turn : instruction_step (map_of l) run.machine ≡ rv.Asks StackLimit → Closes taken faults old new machine.waiting outcome.StackLimit result →
      Turns l start after next left run (Some result)
  limit_turn asks closes =
      ended_over (Ended c.StackLimit) outcome.StackLimit (step_is l run (rv.Asks StackLimit) at.running asks) (λ e. absurd (cc e)) refl (λ o. o) closes

  pub end_turn : (value : ℕ) → instruction_step (map_of l) run.machine ≡ rv.Asks (End value) → Closes taken faults old new machine.waiting (outcome.Done value) result →
      Turns l start after next left run (Some result)
  end_turn value asks closes =
      ended_over (Ended (c.Done value)) (outcome.Done value) (step_is l run (rv.Asks (End value)) at.running asks) (λ e. absurd (cc e)) refl (λ o. o) closes

-- ---- the run goes on

-- it asks for something, which is done
pub asks_turn : (l : Launch) (begun now : Outside) (machine after : Machine) (result : Option Outcome) (r : Request) → stops.map_of machine.program ≡ map_of l →
    outcome_in machine.program ≡ rv.Asks r →
    HasTurned l begun now machine after result (λ run. instruction_step (map_of l) run.machine ≡ rv.Asks r) → HasTurned l begun now machine after result (λ _. Unit {0})
asks_turn l begun now machine after result r map asks turned = record {
  bytes = turned.bytes;
  taken = turned.taken;
  turns = λ start run rest may at _. turned.turns start run rest may at (at_outcome l machine start begun (turned.bytes ++ rest) run map at ∙ asks);
}

-- ---- a byte is put

pub put_turn : (l : Launch) (start before after : Outside) (machine next : Machine) (left : List ℕ) (run : Run) (byte : ℕ) → IsAt machine start before left run →
    instruction_step (map_of l) run.machine ≡ rv.Asks (PutByte byte) →
    state_of next.program ≡ at_pc ((state_of machine.program).pc + 4) (state_of machine.program) →
    Moves before.output after.output (machine.waiting ++ byte ∷ []) next.waiting → after.log ≡ before.log → IsAt next start after left (step l run)
put_turn l start before after machine next left run byte at asks state output log =
    subst (IsAt next start after left) (sym (step_is l run (rv.Asks (PutByte byte)) at.running asks)) record {
      running = at.running;
      machine_is = ap (λ (s : State). at_pc (s.pc + 4) s) at.machine_is ∙ sym state;
      input = at.input;
      written = record {
        output = moves_more start.output before.output after.output run.output (byte ∷ []) machine.waiting next.waiting at.written.output output;
        log = subst (λ (told : Option (List ℕ)). Appends start.log told run.log) (sym log) at.written.log;
      };
    }

-- what waits could not be written before an instruction
pub write_fails : (l : Launch) (start before after : Outside) (machine : Machine) (left : List ℕ) (run : Run) → IsAt machine start before left run →
    AppendsFront before.output after.output machine.waiting → after.log ≡ before.log → LacksOutput start after left run ⊎ LacksOutput start after left (step l run)
write_fails l start before after machine left run at output log = inl record {
  input = at.input;
  front = record {
    output = moves_front start.output before.output after.output run.output machine.waiting at.written.output output;
    log = whole_front start.log after.log run.log (subst (λ (told : Option (List ℕ)). Appends start.log told run.log) (sym log) at.written.log);
  };
}

-- what waits is written before an instruction
pub written_at : (start before after : Outside) (machine next : Machine) (left : List ℕ) (run : Run) → IsAt machine start before left run → next.program ≡ machine.program →
    next.waiting ≡ [] → Appends before.output after.output machine.waiting → after.log ≡ before.log →
    IsAt next start after left run
written_at start before after machine next left run at program none output log = record {
  running = at.running;
  machine_is = at.machine_is ∙ ap state_of (sym program);
  input = at.input;
  written = record {
    output = moved start.output after.output run.output next.waiting none
        (moves_all start.output before.output after.output run.output machine.waiting at.written.output output);
    log = subst (λ (told : Option (List ℕ)). Appends start.log told run.log) (sym log) at.written.log;
  };
}

-- ---- a byte is taken

-- what a run is once a byte is taken
record IsTaken (run after : Run) : Type 0 where
  status : after.status ≡ run.status
  input : after.input ≡ drop 1 run.input
  output : after.output ≡ run.output
  log : after.log ≡ run.log

is_taken : (machine : State) (input taken output log : List ℕ) (status : Status) →
    let run : Run = record { machine = machine; input = input; taken = taken; output = output; log = log; status = status } in IsTaken run (one_taken run)
is_taken machine [] taken output log status = record { status = refl; input = refl; output = refl; log = refl }
is_taken machine (byte ∷ rest) taken output log status = record { status = refl; input = refl; output = refl; log = refl }

-- where nothing waits: these bytes were taken of the input, and the rest is left
module _ (l : Launch) (start before after : Outside) (machine next : Machine) (bytes rest : List ℕ) (run : Run) (at : IsAt machine start before (bytes ++ rest) run)
    (none : machine.waiting ≡ []) (asks : instruction_step (map_of l) run.machine ≡ rv.Asks GetByte) (waits : next.waiting ≡ machine.waiting)
    (output : after.output ≡ before.output) (log : after.log ≡ before.log) where
  take_next : state_of next.program ≡ with_set (state_of machine.program) REQUEST_VALUE (next_byte (bytes ++ rest)) → rest ≡ drop 1 (bytes ++ rest) →
      IsAt next start after rest (step l run)
  take_next state left =
      let taken = is_taken run.machine run.input run.taken run.output run.log run.status in
      subst (IsAt next start after rest) (sym (step_is l run (rv.Asks GetByte) at.running asks)) record {
        running = taken.status ∙ at.running;
        machine_is = ap (λ (s : State). with_set s REQUEST_VALUE (next_byte run.input)) at.machine_is
            ∙ ap (λ (input : List ℕ). with_set (state_of machine.program) REQUEST_VALUE (next_byte input)) at.input ∙ sym state;
        input = taken.input ∙ ap (drop 1) at.input ∙ sym left;
        written = record {
          output = subst (λ (xs : List ℕ). Moves start.output after.output xs next.waiting) (sym taken.output)
              (subst (λ (told : Option (List ℕ)). Moves start.output told run.output next.waiting) (sym output)
              (subst (Moves start.output before.output run.output) (sym waits) at.written.output));
          log = subst (Appends start.log after.log) (sym taken.log)
              (subst (λ (told : Option (List ℕ)). Appends start.log told run.log) (sym log) at.written.log);
        };
      }

  take_fails : bytes ≡ [] → LacksInput l start after rest run
  take_fails nothing = record {
    before = record { running = at.running; asks = asks };
    input = at.input ∙ ap (λ (xs : List ℕ). xs ++ rest) nothing;
    shown = record {
      output = subst (λ (told : Option (List ℕ)). Appends start.output told run.output) (sym output)
          (moves_end start.output before.output run.output machine.waiting none at.written.output);
      log = subst (λ (told : Option (List ℕ)). Appends start.log told run.log) (sym log) at.written.log;
    };
  }

  pub take_turn : (result : Option Outcome) → Takes (state_of machine.program) (state_of next.program) bytes rest result →
      Turns l start after next rest run result
  take_turn None takes = take_next takes.0 takes.1
  take_turn (Some o) takes = subst (λ (p : Outcome). Turns l start after next rest run (Some p)) (sym takes.0) (take_fails takes.1)
