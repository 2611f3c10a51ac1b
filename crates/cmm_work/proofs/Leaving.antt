-- What a run leaves in files.
use Rattle.std.proofs.Common.{◌≡◌, ℕ, Bool, true, false, List, Option, Some, None, refl, sym, subst}
use Rattle.rv_table.specs.Machine.{State}
use Rattle.cmm_image.specs.declared.parts.ImageParts.{ImageParts}
use Rattle.cmm_run.specs.declared.outcome.Outcome.{Outcome}
use Rattle.cmm_run.specs.declared.outcome.Outcome.TheVariants.{Done, Stopped, StackLimit, StepLimit, Trap, InputFault, OutputFault, Torn}
use Rattle.cmm_work.specs.Saving.{Saves, SavesNothing, is_stopped, saved_to}
use Rattle.cmm_work.specs.Work.{Work}

pub stop_is : (o : Outcome) → is_stopped o ≡ true → o ≡ Stopped
stop_is Stopped is = refl
stop_is (Done value) is = absurd (cc is)
stop_is StackLimit is = absurd (cc is)
stop_is StepLimit is = absurd (cc is)
stop_is (Trap t) is = absurd (cc is)
stop_is InputFault is = absurd (cc is)
stop_is OutputFault is = absurd (cc is)
stop_is (Torn t) is = absurd (cc is)

module _ (image : ImageParts) (stack : ℕ) (machine : State) (w : Work) where
  -- a run that was not stopped is not saved
  pub not_saved : (o : Outcome) (save : Option (List ℕ)) → is_stopped o ≡ false → SavesNothing o w → Saves image stack machine o (saved_to (is_stopped o) save) w
  not_saved o save going nothing = subst (λ (b : Bool). Saves image stack machine o (saved_to b save) w) (sym going) nothing

  -- and neither is one for which no file is named
  pub nowhere_saved : (o : Outcome) (b : Bool) (save : Option (List ℕ)) → save ≡ None → SavesNothing o w → Saves image stack machine o (saved_to b save) w
  nowhere_saved o b (Some name) is nothing = absurd (cc is)
  nowhere_saved o true None is nothing = nothing
  nowhere_saved o false None is nothing = nothing

  -- one that was stopped is
  pub stop_saved : (o : Outcome) (save : Option (List ℕ)) (name : List ℕ) → is_stopped o ≡ true → save ≡ Some name → Saves image stack machine Stopped (Some name) w →
      Saves image stack machine o (saved_to (is_stopped o) save) w
  stop_saved o save name stopped is saves =
      subst (λ (b : Bool). Saves image stack machine o (saved_to b save) w) (sym stopped)
      (subst (λ (s : Option (List ℕ)). Saves image stack machine o s w) (sym is)
      (subst (λ (x : Outcome). Saves image stack machine x (Some name) w) (sym (stop_is o stopped)) saves))
