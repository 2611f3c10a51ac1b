-- Runs of an image through instructions that ask for nothing.
use Rattle.std.proofs.Common.{◌≡◌, ℕ, zero, suc, ◌+◌, Bool, List, ◌++◌, Some, ap, refl, sym, ◌∙◌, subst, arith, add-zero}
use Rattle.rv_table.specs.Machine as rv
use Rattle.rv_table.specs.Machine.{MemoryMap, State, instruction_step, steps, and_then}
use Rattle.cmm_image_machine.specs.Machine.{Launch, Run, Running, map_of, image_after, step}
use Rattle.cmm_client.specs.Stops.{map_of as program_map_of, state_of}
use Rattle.cmm_run.specs.declared.machine.Machine.{Machine}
use Rattle.cmm_run.specs.Outside.{Outside}
use Rattle.cmm_run.specs.inside.Turns.{IsAt}
use Rattle.cmm_run.specs.inside.Waits.{Moves}
use Rattle.cmm_run.proofs.Steps.{step_last}
use Rattle.cmm_run.proofs.Turning.{step_is}
use Rattle.cmm_run.proofs.WholeRuns.{HasRun, IsTold}

-- one instruction, and then those of which this is known
one_through : (l : Launch) (input : List ℕ) (n count : ℕ) (run : Run) (t : State) (o : rv.Outcome) → image_after l input count ≡ run → run.status ≡ Running →
    instruction_step (map_of l) run.machine ≡ o → and_then o (steps (map_of l) n) ≡ Some t →
    ((next : Run) → image_after l input (suc count) ≡ next → next.status ≡ Running → steps (map_of l) n next.machine ≡ Some t →
    image_after l input (suc count + n) ≡ record next { machine = t }) →
    image_after l input (count + suc n) ≡ record run { machine = t }
one_through l input n count run t (rv.Next u) here running is goes rest =
    let next : image_after l input (suc count) ≡ record run { machine = u } = step_last l input count ∙ ap (step l) here ∙ step_is l run (rv.Next u) running is in
    let one : count + suc n ≡ suc count + n = omega arith in
    ap (image_after l input) one ∙ rest (record run { machine = u }) next running goes
one_through l input n count run t (rv.Asks r) here running is goes rest = absurd (cc goes)
one_through l input n count run t (rv.Traps kind) here running is goes rest = absurd (cc goes)

-- n instructions of the machine are n of the image
pub goes_through : (l : Launch) (input : List ℕ) (n count : ℕ) (run : Run) (t : State) → image_after l input count ≡ run → run.status ≡ Running →
    steps (map_of l) n run.machine ≡ Some t → image_after l input (count + n) ≡ record run { machine = t }
goes_through l input zero count run t here running goes =
    let same : run.machine ≡ t = cc goes in
    ap (image_after l input) (add-zero count) ∙ here ∙ (λ i. record run { machine = same i })
goes_through l input (suc n) count run t here running goes =
    one_through l input n count run t (instruction_step (map_of l) run.machine) here running refl goes
    (λ next here running goes. goes_through l input n (suc count) next t here running goes)

-- a run that goes on so has as many turns more, and nothing was written or taken
pub has_run_through : (l : Launch) (start now : Outside) (machine next : Machine) (count n : ℕ) → HasRun l start now machine count →
    program_map_of machine.program ≡ map_of l → steps (program_map_of machine.program) n (state_of machine.program) ≡ Some (state_of next.program) →
    next.waiting ≡ machine.waiting → next.input_ended ≡ machine.input_ended → HasRun l start now next (count + n)
has_run_through l start now machine next count n run map goes waiting ended = record {
  fails = run.fails;
  taken = run.taken;
  bytes = run.bytes;
  told = λ input is. subst (λ (e : Bool). IsTold start now e run.taken input) (sym ended) (run.told input is);
  at = λ rest may.
      let input = run.taken ++ rest in
      let at = run.at rest (λ e. may (ended ∙ e)) in
      let from_here = ap (steps (map_of l) n) at.machine_is ∙ ap (λ (m : MemoryMap). steps m n (state_of machine.program)) (sym map) ∙ goes in
      subst (IsAt next start now rest)
      (sym (goes_through l input n count (image_after l input count) (state_of next.program) refl at.running from_here))
      record {
        running = at.running;
        machine_is = refl;
        input = at.input;
        written = record {
          output = subst (Moves start.output now.output (image_after l input count).output) (sym waiting) at.written.output;
          log = at.written.log;
        };
      };
}
