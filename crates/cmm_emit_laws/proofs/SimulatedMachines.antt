-- An image simulates the machines that it serves.
use Rattle.std.proofs.Common.{◌≡◌, ℕ, ◌+◌, ◌≤◌, refl, sym, ◌∙◌, ap, subst, arith}
use Rattle.std.specs.Prelude.{false, Some}
use Rattle.rv_table.specs.declared.request.Request.{Request}
use Rattle.rv_table.specs.Machine.{State, Asks, instruction_step}
use Rattle.rv_asm.proofs.Shared.{leads_of}
use Rattle.rv_asm.specs.Quiet.{IsQuiet}
use Rattle.rv_asm.specs.Reaching.{Reaches}
use Rattle.cmm_simulation.proofs.Paths.{one_step, joined}
use Rattle.cmm_simulation.proofs.Prefixes.{within_refl}
use Rattle.cmm_simulation.proofs.Simulations.{stepwise}
use Rattle.cmm_simulation.specs.Machine.{Machine}
use Rattle.cmm_simulation.specs.Observing.{Level, Passes}
use Rattle.cmm_simulation.specs.Seen.{Seen, IsWithin, but_input}
use Rattle.cmm_simulation.specs.Simulation.{Leads, Simulates}
use Rattle.cmm_program.specs.State.{Outcome}
use Rattle.cmm_machine_laws.specs.Observed.{Call, Ending}
use Rattle.cmm_image_machine.proofs.Shared.{step_grows}
use Rattle.cmm_image_machine.specs.Machine.{Launch, Run, Status, Running, Ended, Trapped, Torn, map_of, requested, after_instruction, step}
use Rattle.cmm_image_machine.specs.Observed.{asked_at, event_at, has_failed, image_machine}
use Rattle.cmm_emit_laws.specs.Outside.{Outside, run_with, seen_outside}
use Rattle.cmm_emit_laws.specs.Serving.{AreDone, IsAsked, IsDoneBy, IsServed, Silently, Asking, IsRepresentedBy}

-- a step by how the run stands
step_by : (l : Launch) (run : Run) (status : Status) → run.status ≡ status →
    step l run ≡ elim status [ Running ↦ after_instruction l run (instruction_step (map_of l) run.machine) | _ ↦ run ]
step_by l run status is = ap (λ (z : Status). elim z [ Running ↦ after_instruction l run (instruction_step (map_of l) run.machine) | _ ↦ run ]) is

-- while a run goes on, nobody sees the instructions that ask for nothing
pub image_is_quiet : (l : Launch) (o : Outside) → o.status ≡ Running → IsQuiet (image_machine l) (map_of l) (run_with o) (seen_outside o)
image_is_quiet l o going = record {
  step = λ s t next. step_by l (run_with o s) Running going ∙ ap (after_instruction l (run_with o s)) next;
  asks = λ s t next. ap (event_at l s) going ∙ ap (asked_at l s) next;
  shows = λ s. refl;
  right = λ s. ap has_failed going;
}

module _ {S : Type 0} (A : Machine S ℕ Call Ending) (l : Launch) (outside_of : S → Outside) (Shown : S → State → Type 0) (Holds : S → Type 0)
    (cost : S → ℕ) (served : IsServed A l outside_of Shown Holds cost) where
  abbrev B : Machine Run ℕ Call Ending
  B = image_machine l

  abbrev Relates : S → Run → Type 0
  Relates = IsRepresentedBy A l outside_of Shown Holds

  within_same : (a : S) → outside_of (A.step a) ≡ outside_of a → IsWithin (seen_outside (outside_of a)) (A.seen (A.step a))
  within_same a same =
      let e : seen_outside (outside_of a) ≡ A.seen (A.step a) = ap seen_outside (sym same) ∙ sym (served.seen (A.step a)) in
      subst (λ (z : Seen ℕ). IsWithin (seen_outside (outside_of a)) z) e (within_refl (seen_outside (outside_of a)))

  within_after : (a : S) → IsWithin (seen_outside (outside_of (A.step a))) (A.seen (A.step a))
  within_after a = subst (λ (e : Seen ℕ). IsWithin e (A.seen (A.step a))) (served.seen (A.step a)) (within_refl (A.seen (A.step a)))

  -- a step that asks
  asking : (a : S) (s : State) (before later : ℕ) (request : Request) → (outside_of a).status ≡ Running → before + 1 + later ≤ cost a →
      Reaches (map_of l) 0 before s (IsAsked A l outside_of Shown Holds a later request) → A.wrong (A.step a) ≡ false →
      Holds (A.step a) → (status : Status) → (outside_of (A.step a)).status ≡ status →
      Leads B (λ _. 1) (Passes A B a) (Relates (A.step a)) 1 (cost a) (run_with (outside_of a) s)
  asking a s before later request going few reaches right held status is_status =
      joined {n = 1} {o = 1 + later} first (λ u q. second u q) (omega arith) (omega arith)
    where
      Q : Run → Type 0
      Q u = (t : State) × (u ≡ run_with (outside_of a) t) × IsAsked A l outside_of Shown Holds a later request t

      after_of : State → Run
      after_of t = requested l (run_with (outside_of a) t) request

      steps_to : (t : State) → IsAsked A l outside_of Shown Holds a later request t → B.step (run_with (outside_of a) t) ≡ after_of t
      steps_to t asked = step_by l (run_with (outside_of a) t) Running going ∙ ap (after_instruction l (run_with (outside_of a) t)) asked.asks

      within_asked : (t : State) → IsAsked A l outside_of Shown Holds a later request t → IsWithin (seen_outside (outside_of a)) (A.seen (A.step a))
      within_asked t asked =
          let e : B.seen (B.step (run_with (outside_of a) t)) ≡ A.seen (A.step a) =
          ap B.seen (steps_to t asked) ∙ ap seen_outside asked.outside ∙ sym (served.seen (A.step a)) in
          subst (λ (z : Seen ℕ). IsWithin (seen_outside (outside_of a)) z) e (step_grows l (run_with (outside_of a) t)).seen

      first : Leads B (λ _. 1) (Passes A B a) Q 0 before (run_with (outside_of a) s)
      first = leads_of A B (map_of l) (run_with (outside_of a)) (seen_outside (outside_of a)) (image_is_quiet l (outside_of a) going) a
          (within_asked reaches.to reaches.arrives) 0 before s
          (IsAsked A l outside_of Shown Holds a later request) Q reaches (λ t asked. (t, refl, asked))

      asks_at : (t : State) → IsAsked A l outside_of Shown Holds a later request t → B.asks (run_with (outside_of a) t) ≡ asked_at l t (Asks request)
      asks_at t asked = ap (event_at l t) going ∙ ap (asked_at l t) asked.asks

      unbroken : (z : Status) → (outside_of (A.step a)).status ≡ z → has_failed (outside_of (A.step a)).status ≡ false
      unbroken Running is = ap has_failed is
      unbroken (Ended outcome) is = ap has_failed is
      unbroken (Trapped kind pc) is = let over = served.over (A.step a) held right (λ e. absurd (cc)) in let g = over.1 in absurd (cc)
      unbroken (Torn b) is = let over = served.over (A.step a) held right (λ e. absurd (cc)) in let g = over.1 in absurd (cc)

      passes : (t : State) → IsAsked A l outside_of Shown Holds a later request t → Passes A B a (run_with (outside_of a) t)
      passes t asked = record {
        seen =
            let e : B.seen (B.step (run_with (outside_of a) t)) ≡ A.seen (A.step a) =
            ap B.seen (steps_to t asked) ∙ ap seen_outside asked.outside ∙ sym (served.seen (A.step a)) in
            subst (λ (z : Seen ℕ). IsWithin z (A.seen (A.step a))) (sym e) (within_refl (A.seen (A.step a)));
        asks = λ e is. (asked.event e (sym (asks_at t asked) ∙ is), served.seen a);
        right = λ r. ap B.wrong (steps_to t asked) ∙ ap (λ (o : Outside). has_failed o.status) asked.outside ∙ unbroken status is_status;
      }

      -- where the run goes on behind the request
      goes_on : (t : State) → IsAsked A l outside_of Shown Holds a later request t → (outside_of (A.step a)).status ≡ Running →
          Leads B (λ _. 1) (Passes A B a) (Relates (A.step a)) 0 later (after_of t)
      goes_on t asked is =
          let o = outside_of (A.step a) in
          let e : after_of t ≡ run_with o (after_of t).machine = ap (λ (z : Outside). run_with z (after_of t).machine) asked.outside in
          subst (λ (u : Run). Leads B (λ _. 1) (Passes A B a) (Relates (A.step a)) 0 later u) (sym e)
          (leads_of A B (map_of l) (run_with o) (seen_outside o) (image_is_quiet l o is) a (within_after a) 0 later (after_of t).machine
          (Shown (A.step a)) (Relates (A.step a)) (asked.running is)
          (λ v shown. record { outside = refl; right = right; holds = held; running = λ g. shown; over = λ outcome ended. absurd (cc) }))

      -- where it is over with it
      is_over : (t : State) → IsAsked A l outside_of Shown Holds a later request t → ((outside_of (A.step a)).status ≡ Running → ⊥) →
          Leads B (λ _. 1) (Passes A B a) (Relates (A.step a)) 0 later (after_of t)
      is_over t asked never = record {
        steps = 0;
        through = λ i less. absurd (omega arith);
        arrives = record { outside = asked.outside; right = right; holds = held; running = λ g. absurd (never g); over = asked.over };
        enough = omega arith;
        within = omega arith;
      }

      rest : (t : State) → IsAsked A l outside_of Shown Holds a later request t → (z : Status) → (outside_of (A.step a)).status ≡ z →
          Leads B (λ _. 1) (Passes A B a) (Relates (A.step a)) 0 later (after_of t)
      rest t asked Running is = goes_on t asked is
      rest t asked (Ended outcome) is = is_over t asked (λ g. absurd (cc))
      rest t asked (Trapped kind pc) is = is_over t asked (λ g. absurd (cc))
      rest t asked (Torn b) is = is_over t asked (λ g. absurd (cc))

      second : (u : Run) → Q u → Leads B (λ _. 1) (Passes A B a) (Relates (A.step a)) 1 (1 + later) u
      second u q =
          let t = q.0 in
          let asked = q.2 in
          subst (λ (v : Run). Leads B (λ _. 1) (Passes A B a) (Relates (A.step a)) 1 (1 + later) v) (sym q.1)
          (joined {n = 0} {o = later} (one_step {Q = λ v. v ≡ after_of t} {most = 1} (passes t asked) (steps_to t asked) (omega arith))
          (λ v e. subst (λ (w : Run). Leads B (λ _. 1) (Passes A B a) (Relates (A.step a)) 0 later w) (sym e) (rest t asked status is_status))
          (omega arith) (omega arith))

  running_leads : (a : S) (s : State) → (outside_of a).status ≡ Running → A.wrong (A.step a) ≡ false → Holds (A.step a) → IsDoneBy A l outside_of Shown Holds a (cost a) s →
      Leads B (λ _. 1) (Passes A B a) (Relates (A.step a)) 1 (cost a) (run_with (outside_of a) s)
  running_leads a s going right held (Silently same reaches) =
      leads_of A B (map_of l) (run_with (outside_of a)) (seen_outside (outside_of a)) (image_is_quiet l (outside_of a) going) a
      (within_same a same) 1 (cost a) s
      (Shown (A.step a)) (Relates (A.step a)) reaches
      (λ t shown. record {
        outside = sym same;
        right = right;
        holds = held;
        running = λ g. shown;
        over = λ outcome ended. let e : (outside_of (A.step a)).status ≡ Running = ap (λ (o : Outside). o.status) same ∙ going in absurd (cc);
      })
  running_leads a s going right held (Asking before later request few reaches) =
      asking a s before later request going few reaches right held (outside_of (A.step a)).status refl

  over_leads : (a : S) (u : Run) → Relates a u → A.wrong (A.step a) ≡ false → (outcome : Outcome) → (outside_of a).status ≡ Ended outcome →
      A.step a ≡ a → Leads B (λ _. 1) (Passes A B a) (Relates (A.step a)) 1 (cost a) u
  over_leads a u shown right outcome is same =
      let status : u.status ≡ Ended outcome = ap (λ (o : Outside). o.status) shown.outside ∙ is in
      let e = step_by l u (Ended outcome) status in
      one_step {most = cost a}
      (record {
        seen =
            let g : B.seen (B.step u) ≡ A.seen (A.step a) =
            ap B.seen e ∙ ap seen_outside shown.outside ∙ sym (served.seen a) ∙ ap A.seen (sym same) in
            subst (λ (z : Seen ℕ). IsWithin z (A.seen (A.step a))) (sym g) (within_refl (A.seen (A.step a)));
        asks = λ event at.
            let h : event_at l u.machine (Ended outcome) ≡ Some event = sym (ap (event_at l u.machine) status) ∙ at in
            (shown.over outcome is ∙ h, served.seen a ∙ ap seen_outside (sym shown.outside));
        right = λ r. ap B.wrong e ∙ ap has_failed status;
      })
      (subst (λ (v : Run). Relates (A.step a) v) (sym e) (subst (λ (b : S). Relates b u) (sym same) shown))
      (served.costs a shown.holds)

  leads_by : (a : S) (u : Run) → Relates a u → A.wrong (A.step a) ≡ false → ((outside_of a).status ≡ Running → Holds (A.step a)) →
      ((outside_of a).status ≡ Running → IsDoneBy A l outside_of Shown Holds a (cost a) u.machine) → (z : Status) → (outside_of a).status ≡ z →
      Leads B (λ _. 1) (Passes A B a) (Relates (A.step a)) 1 (cost a) u
  leads_by a u shown right keeps does Running is =
      subst (λ (o : Outside). Leads B (λ _. 1) (Passes A B a) (Relates (A.step a)) 1 (cost a) (run_with o u.machine)) (sym shown.outside)
      (running_leads a u.machine is right (keeps is) (does is))
  leads_by a u shown right keeps does (Ended outcome) is =
      let over = served.over a shown.holds shown.right (λ e. absurd (cc)) in over_leads a u shown right over.0 over.1 over.2
  leads_by a u shown right keeps does (Trapped kind pc) is = let over = served.over a shown.holds shown.right (λ e. absurd (cc)) in let g = over.1 in absurd (cc)
  leads_by a u shown right keeps does (Torn b) is = let over = served.over a shown.holds shown.right (λ e. absurd (cc)) in let g = over.1 in absurd (cc)

  level_by : (a : S) (u : Run) → Relates a u → (z : Status) → (outside_of a).status ≡ z → Level A B a u
  level_by a u shown Running is =
      let status : u.status ≡ Running = ap (λ (o : Outside). o.status) shown.outside ∙ is in
      record {
        seen = served.seen a ∙ ap seen_outside (sym shown.outside);
        asks = served.level a u.machine shown.holds is (shown.running is) ∙ ap (λ (q : Status). but_input (event_at l u.machine q)) (sym status);
        wrong = shown.right ∙ ap has_failed (sym status);
      }
  level_by a u shown (Ended outcome) is =
      let status : u.status ≡ Ended outcome = ap (λ (o : Outside). o.status) shown.outside ∙ is in
      record {
        seen = served.seen a ∙ ap seen_outside (sym shown.outside);
        asks = ap but_input (shown.over outcome is) ∙ ap (λ (q : Status). but_input (event_at l u.machine q)) (sym status);
        wrong = shown.right ∙ ap has_failed (sym status);
      }
  level_by a u shown (Trapped kind pc) is = let over = served.over a shown.holds shown.right (λ e. absurd (cc)) in let g = over.1 in absurd (cc)
  level_by a u shown (Torn b) is = let over = served.over a shown.holds shown.right (λ e. absurd (cc)) in let g = over.1 in absurd (cc)

  -- a step whose code does it
  pub image_leads : (a : S) (u : Run) → Relates a u → A.wrong (A.step a) ≡ false → ((outside_of a).status ≡ Running → Holds (A.step a)) →
      ((outside_of a).status ≡ Running → IsDoneBy A l outside_of Shown Holds a (cost a) u.machine) → Leads B (λ _. 1) (Passes A B a) (Relates (A.step a)) 1 (cost a) u
  image_leads a u shown right keeps does = leads_by a u shown right keeps does (outside_of a).status refl

  pub image_is_level : (a : S) (u : Run) → Relates a u → Level A B a u
  image_is_level a u shown = level_by a u shown (outside_of a).status refl

pub image_simulates : {S : Type 0} (A : Machine S ℕ Call Ending) (l : Launch) (outside_of : S → Outside) (Shown : S → State → Type 0) (Holds : S → Type 0) (cost : S → ℕ) →
    AreDone A l outside_of Shown Holds cost → Simulates A cost (image_machine l) (λ _. 1) (IsRepresentedBy A l outside_of Shown Holds)
image_simulates A l outside_of Shown Holds cost done =
    stepwise (λ a u shown. image_is_level A l outside_of Shown Holds cost done.served a u shown)
    (λ a u shown right.
    image_leads A l outside_of Shown Holds cost done.served a u shown right
    (λ going. done.keeps a u.machine shown.holds going (shown.running going) right)
    (λ going. done.done a u.machine shown.holds going (shown.running going) right))
