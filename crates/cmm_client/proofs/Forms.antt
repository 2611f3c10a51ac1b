-- What the commands that let a program go on may answer, and that an answer tells which.
use Rattle.std.proofs.Common.{◌≡◌, ◌==◌, ◌⊎◌, length, inl, inr, Bool, true, false, List, [], ◌∷◌, ℕ, Result, Ok, Err, Option, Some, None, refl, sym, ap, subst, ◌∙◌}
use Rattle.std.specs.Result.{result_and}
use Rattle.cmm_rules.specs.declared.rule.Rule.{Rule}
use Rattle.cmm_rules.specs.declared.rule.Rule.TheVariants.{DoesNotFit, NoExit, NoPlace, OtherCount}
use Rattle.rv_table.specs.Machine.{State}
use Rattle.cmm_abi.specs.Regions.{Region}
use Rattle.rv_memory.specs.Regions as regions
use Rattle.rv_memory.specs.States as states
use Rattle.cmm_script.specs.Lines.{ok_line, resume_line}
use Rattle.cmm_program.specs.Asking.{Askable, Break, Cursor, Exit}
use Rattle.cmm_program.specs.Commands.{Asked, Resumes, Tears, all_fit, at_first, cut, cutting, past, poking, resumed, returning, says, unwinding}
use Rattle.cmm_program.specs.Errors.{given, provided}
use Rattle.cmm_program.specs.Layout.{bytes_of}
use Rattle.cmm_image.specs.declared.parts.ImageParts.{ImageParts}
use Rattle.cmm_image_machine.specs.Changes.{with_data}
use Rattle.cmm_image_machine.specs.Frames.{Element}
use Rattle.cmm_image_machine.specs.Machine.{askable}
use Rattle.cmm_resume.specs.declared.refusal.Refusal.{Refusal}
use Rattle.cmm_resume.specs.Answering.{Answers}
use Rattle.cmm_resume.specs.Finding.{poking_in}
use Rattle.cmm_client.specs.declared.reply.Reply.TheVariants.{Changed, Resumed}
use Rattle.cmm_client.specs.declared.stopped.Stopped.{Stopped}
use Rattle.cmm_client.specs.declared.stopped.Thread.{Thread}
use Rattle.cmm_client.specs.Stops.{map_of, region_of, state_of}
use Rattle.cmm_client.specs.inside.Replies.{meant}

-- a command is refused, or lets the program go on, or comes to a break
abbrev Leaves : {A S R : Type 0} → Asked A S R → Type 0
Leaves {A} {S} {R} asked = ((rule : Rule) × (asked ≡ Err rule)) ⊎ (((s : R) × (asked ≡ Ok record { text = resume_line; after = Resumes s })) ⊎ ((b : Break) × (asked ≡ Ok record { text = []; after = Tears b })))

module _ {A S R : Type 0} (k : Askable A S R) where
  taken : (b c : Bool) (s : R) → Leaves {A = A} {S = S} {R = R} (provided b OtherCount (provided c DoesNotFit (Ok record { text = resume_line; after = Resumes s })))
  taken true true s = inr (inl (s, refl))
  taken true false s = inl (DoesNotFit, refl)
  taken false c s = inl (OtherCount, refl)

  exits : (exit : Option (Exit R)) (values : List ℕ) → Leaves {A = A} {S = S} {R = R} (resumed exit values)
  exits None values = inl (NoExit, refl)
  exits (Some e) values = taken (length e.widths == length values) (all_fit e.widths values) (e.resumed values)

  pub unwinds : (s : S) (a : A) (exit : ℕ) (values : List ℕ) → Leaves (unwinding k s a exit values)
  unwinds s a exit values = exits (k.unwind_exit s a exit) values

  at_end : (broken : Option Break) (rule : Rule) → Leaves {A = A} {S = S} {R = R} (past broken rule)
  at_end None rule = inl (rule, refl)
  at_end (Some b) rule = inr (inr (b, refl))

  returns_by : (activations : List A) (broken : Option Break) (s : S) (exit : ℕ) (values : List ℕ) →
      Leaves {A = A} {S = S} {R = R} (at_first (record { activations = activations; broken = broken }) (λ a. resumed (k.return_exit s a exit) values))
  returns_by [] broken s exit values = at_end broken _
  returns_by (a ∷ older) broken s exit values = exits (k.return_exit s a exit) values

  pub returns : (s : S) (exit : ℕ) (values : List ℕ) → Leaves (returning k s exit values)
  returns s exit values = returns_by (k.running s).activations (k.running s).broken s exit values

  cuts_by : (activations : List A) (broken : Option Break) (s : S) (to : ℕ) (values : List ℕ) → Leaves (cut k s to values broken activations)
  cuts_by [] broken s to values = at_end broken _
  cuts_by (a ∷ older) broken s to values = by (k.cut_exit s a to) (cuts_by older broken s to values)
    where
      by : (o : Option (Exit R)) → Leaves (cut k s to values broken older) → Leaves {A = A} {S = S} {R = R} (elim o [ Some e ↦ resumed (Some e) values | None ↦ cut k s to values broken older ])
      by (Some e) later = exits (Some e) values
      by None later = later

  pub cuts : (s : S) (to : ℕ) (values : List ℕ) → Leaves (cutting k s to values)
  cuts s to values = cuts_by (k.running s).activations (k.running s).broken s to values

-- ---- what is answered tells which

module _ (i : ImageParts) (r : Region) (cursor : Cursor Element) (before after : State) where
  left_is : (change : Asked Element State State) (result : Result (Unit {0}) Refusal) → Leaves change → Answers change before after result →
      change ≡ meant i r cursor after (result_and result (Ok Resumed))
  left_is change result (inl (rule, is)) answers =
      let there = subst (λ (x : Asked Element State State). Answers x before after result) is answers in
      is ∙ sym (ap (λ (x : Result (Unit {0}) Refusal). meant i r cursor after (result_and x (Ok Resumed))) there.0)
  left_is change result (inr (inl (s, is))) answers =
      let there = subst (λ (x : Asked Element State State). Answers x before after result) is answers in
      is ∙ ap (λ (t : State). Ok record { text = resume_line; after = Resumes t }) (sym there.1)
      ∙ sym (ap (λ (x : Result (Unit {0}) Refusal). meant i r cursor after (result_and x (Ok Resumed))) there.0)
  left_is change result (inr (inr (b, is))) answers =
      let there = subst (λ (x : Asked Element State State). Answers x before after result) is answers in
      is ∙ sym (ap (λ (x : Result (Unit {0}) Refusal). meant i r cursor after (result_and x (Ok Resumed))) there.0)

  -- where a label is and its data may be written, it is
  poked_is : (o : Option State) (result : Result (Unit {0}) Refusal) → Answers (given o NoPlace (says ok_line cursor)) before after result →
      given o NoPlace (says ok_line cursor) ≡ meant i r cursor after (result_and result (Ok Changed))
  poked_is None result answers = sym (ap (λ (x : Result (Unit {0}) Refusal). meant i r cursor after (result_and x (Ok Changed))) answers.0)
  poked_is (Some s) result answers =
      ap (λ (t : State). says ok_line cursor t) (sym answers.1) ∙ sym (ap (λ (x : Result (Unit {0}) Refusal). meant i r cursor after (result_and x (Ok Changed))) answers.0)

-- ---- what is answered of the thread that an accessor gave

module _ (i : ImageParts) (cursor : Cursor Element) (stopped : Stopped) (t : Thread) (same : t ≡ stopped.thread) (after : State) (result : Result (Unit {0}) Refusal) where
  -- so far its state is the program's
  abbrev pub state_in : Thread → State
  state_in u = states.state_of u.regs u.memory

  pub left_from : (change : Region → State → Asked Element State State) → Leaves (change (region_of stopped) (state_of stopped)) →
      Answers (change (regions.region_of t.memory) (state_in t)) (state_in t) after result →
      change (region_of stopped) (state_of stopped) ≡ meant i (region_of stopped) cursor after (result_and result (Ok Resumed))
  left_from change leaves answers = left_is i (region_of stopped) cursor (state_of stopped) after (change (region_of stopped) (state_of stopped)) result leaves
      (subst (λ (u : Thread). Answers (change (regions.region_of u.memory) (state_in u)) (state_in u) after result) same answers)

  pub poked_from : (name : List ℕ) (offset value : ℕ) → (map_of stopped).data_length ≡ length i.initial →
      Answers (poking_in (regions.map_of t.memory).data_length i cursor (state_in t) name offset value) (state_in t) after result →
      poking (askable i (region_of stopped)) cursor (state_of stopped) name offset value ≡ meant i (region_of stopped) cursor after (result_and result (Ok Changed))
  poked_from name offset value all answers =
      let s = state_of stopped in
      poked_is i (region_of stopped) cursor s after (with_data i s name offset (bytes_of 8 value)) result
      (subst (λ (n : ℕ). Answers (poking_in n i cursor s name offset value) s after result) all
      (subst (λ (u : Thread). Answers (poking_in (regions.map_of u.memory).data_length i cursor (state_in u) name offset value) (state_in u) after result) same answers))
