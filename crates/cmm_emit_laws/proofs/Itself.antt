-- An image serves itself.
use Rattle.std.proofs.Common.{◌≡◌, refl, sym, ◌∙◌, ap, subst, arith}
use Rattle.std.specs.Prelude.{true, false}
use Rattle.rv_table.specs.Machine.{State, Outcome, Next, Asks, Traps, and_then, steps, instruction_step}
use Rattle.cmm_simulation.specs.Seen.{but_input}
use Rattle.cmm_program.specs.State as c
use Rattle.cmm_image_machine.proofs.Shared.{over_stays}
use Rattle.cmm_image_machine.specs.Machine.{Launch, Run, Status, Running, Ended, Trapped, Torn, map_of, requested, after_instruction, step}
use Rattle.cmm_image_machine.specs.Observed.{asked_at, event_at, has_failed, image_machine}
use Rattle.cmm_emit_laws.proofs.SimulatedMachines.{image_simulates}
use Rattle.cmm_emit_laws.specs.RequestLaws.{Always, ImagesSimulateThemselves, IsMachineOf, StepsAreDone}
use Rattle.cmm_emit_laws.specs.Outside.{outside}
use Rattle.cmm_emit_laws.specs.Serving.{IsDoneBy, Silently, Asking}

over_by : (run : Run) (z : Status) → run.status ≡ z → has_failed run.status ≡ false → (run.status ≡ Running → ⊥) →
    (outcome : c.Outcome) × (run.status ≡ Ended outcome)
over_by run Running is right never = absurd (never is)
over_by run (Ended outcome) is right never = (outcome, is)
over_by run (Trapped kind pc) is right never = absurd (let e = ap has_failed is in cc)
over_by run (Torn b) is right never = absurd (let e = ap has_failed is in cc)

-- a step of a run that goes on
goes : (l : Launch) (run : Run) → run.status ≡ Running → step l run ≡ after_instruction l run (instruction_step (map_of l) run.machine)
goes l run is = ap (λ (z : Status). elim z [ Running ↦ after_instruction l run (instruction_step (map_of l) run.machine) | _ ↦ run ]) is

done_by : (l : Launch) (run : Run) → run.status ≡ Running → has_failed (step l run).status ≡ false →
    (o : Outcome) → instruction_step (map_of l) run.machine ≡ o → IsDoneBy (image_machine l) l outside IsMachineOf Always run 1 run.machine
done_by l run going right (Next t) is =
    let e : step l run ≡ record run { machine = t } = goes l run going ∙ ap (after_instruction l run) is in
    Silently (ap outside e) (record {
      count = 1;
      to = t;
      enough = omega arith;
      few = omega arith;
      runs = ap (λ (o : Outcome). and_then o (steps (map_of l) 0)) is;
      arrives = sym (ap (λ (r : Run). r.machine) e);
    })
done_by l run going right (Asks request) is =
    let e : step l run ≡ requested l run request = goes l run going ∙ ap (after_instruction l run) is in
    Asking 0 0 request (omega arith) (record {
      count = 0;
      to = run.machine;
      enough = omega arith;
      few = omega arith;
      runs = refl;
      arrives = record {
        asks = is;
        event = λ event at. ap (event_at l run.machine) going ∙ ap (asked_at l run.machine) is ∙ at;
        outside = sym (ap outside e);
        running = λ g. record {
          count = 0;
          to = (requested l run request).machine;
          enough = omega arith;
          few = omega arith;
          runs = refl;
          arrives = sym (ap (λ (r : Run). r.machine) e);
        };
        over = λ outcome ended. ap (event_at l (step l run).machine) ended ∙ ap (λ (r : Run). event_at l r.machine (Ended outcome)) e;
      };
    })
done_by l run going right (Traps kind) is =
    let e : step l run ≡ record run { status = Trapped kind run.machine.pc } = goes l run going ∙ ap (after_instruction l run) is in
    let f : has_failed (step l run).status ≡ true = ap (λ (r : Run). has_failed r.status) e in
    absurd (cc)

pub steps_are_done : StepsAreDone
steps_are_done l = record {
  served = record {
    seen = λ run. refl;
    over = λ run holds right never. let o = over_by run run.status refl right never in (o.0, o.1, over_stays l run never);
    costs = λ run holds. omega arith;
    level = λ run s holds going is.
        ap (λ (z : Status). but_input (event_at l run.machine z)) going
        ∙ ap (λ (z : State). but_input (asked_at l z (instruction_step (map_of l) z))) (sym is);
  };
  keeps = λ run s holds going is right. tt;
  done = λ run s holds going is right.
      subst (λ (z : State). IsDoneBy (image_machine l) l outside IsMachineOf Always run 1 z) (sym is)
      (done_by l run going right (instruction_step (map_of l) run.machine) refl);
}

pub images_simulate_themselves : ImagesSimulateThemselves
images_simulate_themselves l = image_simulates (image_machine l) l outside IsMachineOf Always (λ run. 1) (steps_are_done l)
