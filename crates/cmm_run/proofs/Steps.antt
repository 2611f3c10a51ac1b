-- Runs of an image: one step more, and what stays.
use Rattle.std.proofs.Common.{◌≡◌, ◌≢◌, ℕ, zero, suc, ◌+◌, ◌-◌, ◌≤◌, List, ap, sym, ◌∙◌, subst, arith, add-zero}
use Rattle.cmm_outside.specs.Output.{AppendsFront}
use Rattle.cmm_report.proofs.Shared.{front_longer}
use Rattle.cmm_image_machine.specs.Machine.{Launch, Running, step, image_after}
use Rattle.cmm_image_machine.proofs.Shared.{over_stays, run_grows, runs_are_the_machine}
use Rattle.cmm_run.specs.Outside.{Outside}
use Rattle.cmm_run.specs.Runs.{ShowsFront}

pub step_last : (l : Launch) (input : List ℕ) (n : ℕ) → image_after l input (suc n) ≡ step l (image_after l input n)
step_last l input n = sym (runs_are_the_machine l input (suc n)) ∙ ap (step l) (runs_are_the_machine l input n)

stays : (l : Launch) (input : List ℕ) (n k : ℕ) → (image_after l input n).status ≢ Running → image_after l input (n + k) ≡ image_after l input n
stays l input n zero over = ap (image_after l input) (add-zero n)
stays l input n (suc k) over =
    let next : n + suc k ≡ suc (n + k) = omega arith in
    ap (image_after l input) next ∙ step_last l input (n + k) ∙ ap (step l) (stays l input n k over) ∙ over_stays l (image_after l input n) over

-- a run that is over stands at the limit as it does now
pub stays_until : (l : Launch) (input : List ℕ) (n limit : ℕ) → n ≤ limit → (image_after l input n).status ≢ Running →
    image_after l input n ≡ image_after l input limit
stays_until l input n limit within over =
    let whole : n + (limit - n) ≡ limit = omega arith in
    sym (ap (image_after l input) (sym whole) ∙ stays l input n (limit - n) over)

-- a front of what is written now is one of what is written at the limit
pub front_until : (l : Launch) (input : List ℕ) (before after : Outside) (n limit : ℕ) → n ≤ limit → ShowsFront before after (image_after l input n) →
    ShowsFront before after (image_after l input limit)
front_until l input before after n limit within front =
    let whole : n + (limit - n) ≡ limit = omega arith in
    let more = (run_grows l input n (limit - n)).seen in
    subst (λ (k : ℕ). ShowsFront before after (image_after l input k)) whole record {
      output = subst (λ (xs : List ℕ). AppendsFront before.output after.output xs) (sym more.output.whole)
          (front_longer before.output after.output (image_after l input n).output more.output.rest front.output);
      log = subst (λ (xs : List ℕ). AppendsFront before.log after.log xs) (sym more.log.whole)
          (front_longer before.log after.log (image_after l input n).log more.log.rest front.log);
    }
