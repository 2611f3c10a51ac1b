-- The C-- machine explains a run of an image that agrees with it.
use Rattle.std.specs.Prelude.{Bool}
use Rattle.std.proofs.Common.{◌≡◌, ◌≢◌, ℕ, suc, ◌+◌, ◌*◌, ◌≤◌, ◌++◌, inl, inr, true, false, List, Option, Some, None, IfSome, refl, ap, sym, ◌∙◌, subst, arith}
use Rattle.rv_table.specs.declared.request.Request.TheVariants as request
use Rattle.rv_table.specs.declared.trap.Trap.{Trap}
use Rattle.rv_table.specs.Machine as rv
use Rattle.rv_table.specs.Machine.{instruction_step}
use Rattle.cmm_simulation.specs.Agreement.{Agrees, GoesWrong, IsMatched, StandsAs}
use Rattle.cmm_simulation.specs.Machine.{Stands, after}
use Rattle.cmm_simulation.specs.Seen.{Event, Input, IsWithin, End, Seen}
use Rattle.cmm_simulation.proofs.Prefixes.{within_trans}
use Rattle.cmm_simulation.proofs.Runs.{grows_until, over_until, right_until}
use Rattle.cmm_script.specs.Walk.{Activation}
use Rattle.cmm_program.specs.Acts.{Act}
use Rattle.cmm_program.specs.Acts as act
use Rattle.cmm_program.specs.Machine.{start}
use Rattle.cmm_program.specs.State as c
use Rattle.cmm_program.specs.State.{Setting, Store}
use Rattle.cmm_program.specs.Control.{State, next_act}
use Rattle.cmm_program.specs.Todo.{Todo, todo_control}
use Rattle.cmm_program.specs.Walks.{walk_of}
use Rattle.cmm_machine_laws.proofs.Shared.{machine_lasts}
use Rattle.cmm_machine_laws.specs.Observed as machine
use Rattle.cmm_machine_laws.specs.Observed.{Call, Ending, ending_of}
use Rattle.cmm_image_machine.specs.Machine as image
use Rattle.cmm_image_machine.specs.Machine.{Launch, Run, first_run, image_after, map_of, region_of}
use Rattle.cmm_image_machine.specs.Observed.{asked_at, event_at, has_failed, image_machine, seen_of}
use Rattle.cmm_image_machine.specs.Walks.{chain_walk}
use Rattle.cmm_image_machine.proofs.Shared.{images_last, input_kept, runs_are_the_machine}
use Rattle.cmm_walk.specs.declared.chain.Torn.{Torn}
use Rattle.cmm_run.specs.declared.outcome.Outcome.{Outcome}
use Rattle.cmm_run.specs.declared.outcome.Outcome.TheVariants as outcome
use Rattle.cmm_run.specs.Outside.{Outside as Streams}
use Rattle.cmm_run.specs.Runs as runs
use Rattle.cmm_run.specs.Runs.{Comes, Ends, IsBeforeInput, answer_of}
use Rattle.cmm_top_laws.specs.Explained.{Errs, Gave, IsExplained, Shows, ShowsAll, StandsThere, is_fault, machine_in, state_at}
use Rattle.cmm_top_laws.specs.Laws.{ErrorsLast, RunsAreExplained}

-- ---- how runs end

-- the ending with an outcome has it
outcome_of_ending : (how : c.Outcome) (walk : Option (List Activation)) → (ending_of how walk).outcome ≡ how
outcome_of_ending (c.Done value) walk = refl
outcome_of_ending c.Stopped walk = refl
outcome_of_ending c.StackLimit walk = refl

same_outcome : (first second : c.Outcome) (walk other : Option (List Activation)) → ending_of first walk ≡ ending_of second other → first ≡ second
same_outcome first second walk other is = sym (outcome_of_ending first walk) ∙ ap (λ (e : Ending). e.outcome) is ∙ outcome_of_ending second other

-- the event at which a run with this ending stands
abbrev at_end : Ending → Option (Event Call Ending)
at_end e = Some (End e)

end_is : (e f : Ending) → at_end e ≡ at_end f → e ≡ f
end_is e f is = cc is

-- an image that stands at an end has ended so
image_ended : (l : Launch) (at : rv.State) (status : image.Status) (how : c.Outcome) (walk : Option (List Activation)) →
    event_at l at status ≡ Some (End (ending_of how walk)) → status ≡ image.Ended how
image_ended l at image.Running how walk is = running (instruction_step (map_of l) at) is
  where
    running : (next : rv.Outcome) → asked_at l at next ≡ Some (End (ending_of how walk)) → image.Running ≡ image.Ended how
    running (rv.Next s) is = absurd (cc is)
    running (rv.Asks (request.PutByte byte)) is = absurd (cc is)
    running (rv.Asks request.GetByte) is = absurd (cc is)
    running (rv.Asks request.Yield) is = absurd (cc is)
    running (rv.Asks request.StackLimit) is = absurd (cc is)
    running (rv.Asks (request.End value)) is = absurd (cc is)
    running (rv.Traps kind) is = absurd (cc is)
image_ended l at (image.Ended other) how walk is = ap image.Ended (same_outcome other how _ walk (end_is _ _ is))
image_ended l at (image.Trapped kind pc) how walk is = absurd (cc is)
image_ended l at (image.Torn b) how walk is = absurd (cc is)

-- and so has the C-- machine
machine_ended : (s : Setting) (status : c.Status) (store : Store) (next : Act) (how : c.Outcome) (walk : Option (List Activation)) →
    machine.event_at s status store next ≡ Some (End (ending_of how walk)) → status ≡ c.Ended how
machine_ended s c.Running store next how walk is = running next is
  where
    running : (a : Act) → machine.event_at s c.Running store a ≡ Some (End (ending_of how walk)) → c.Running ≡ c.Ended how
    running act.Nothing is = absurd (cc is)
    running (act.Assign aims values) is = absurd (cc is)
    running (act.Choose value) is = absurd (cc is)
    running (act.PutByte value) is = absurd (cc is)
    running (act.GetByte target) is = absurd (cc is)
    running (act.Call site callee passed) is = absurd (cc is)
    running (act.Yield site values) is = absurd (cc is)
    running (act.Checked site targets op w first second) is = absurd (cc is)
    running (act.Jump callee passed) is = absurd (cc is)
    running (act.Return exit count passed) is = absurd (cc is)
    running (act.Cut value passed own) is = absurd (cc is)
    running (act.Fail error) is = absurd (cc is)
machine_ended s (c.Waiting values) store next how walk is = absurd (cc is)
machine_ended s (c.Ended other) store next how walk is = ap c.Ended (same_outcome other how _ walk (end_is _ _ is))
machine_ended s (c.Wrong error) store next how walk is = absurd (cc is)

-- what answers as a run that has ended so has ended so
answer_ended : (status : image.Status) (how : c.Outcome) → answer_of (image.Ended how) ≡ answer_of status → status ≡ image.Ended how
answer_ended image.Running (c.Done value) is = absurd (cc is)
answer_ended image.Running c.Stopped is = absurd (cc is)
answer_ended image.Running c.StackLimit is = absurd (cc is)
answer_ended (image.Ended (c.Done other)) (c.Done value) is = ap (λ (v : ℕ). image.Ended (c.Done v)) (sym (cc is))
answer_ended (image.Ended (c.Done other)) c.Stopped is = absurd (cc is)
answer_ended (image.Ended (c.Done other)) c.StackLimit is = absurd (cc is)
answer_ended (image.Ended c.Stopped) (c.Done value) is = absurd (cc is)
answer_ended (image.Ended c.Stopped) c.Stopped is = refl
answer_ended (image.Ended c.Stopped) c.StackLimit is = absurd (cc is)
answer_ended (image.Ended c.StackLimit) (c.Done value) is = absurd (cc is)
answer_ended (image.Ended c.StackLimit) c.Stopped is = absurd (cc is)
answer_ended (image.Ended c.StackLimit) c.StackLimit is = refl
answer_ended (image.Trapped kind pc) (c.Done value) is = absurd (cc is)
answer_ended (image.Trapped kind pc) c.Stopped is = absurd (cc is)
answer_ended (image.Trapped kind pc) c.StackLimit is = absurd (cc is)
answer_ended (image.Torn b) (c.Done value) is = absurd (cc is)
answer_ended (image.Torn b) c.Stopped is = absurd (cc is)
answer_ended (image.Torn b) c.StackLimit is = absurd (cc is)

-- a fault is no ending
fault_ends_nothing : (answer : Outcome) (how : c.Outcome) → is_fault answer ≡ true → answer ≢ answer_of (image.Ended how)
fault_ends_nothing answer (c.Done value) fault is = absurd (cc (sym fault ∙ ap is_fault is))
fault_ends_nothing answer c.Stopped fault is = absurd (cc (sym fault ∙ ap is_fault is))
fault_ends_nothing answer c.StackLimit fault is = absurd (cc (sym fault ∙ ap is_fault is))

-- and no run that stands somewhere at the limit answers that the input failed
no_ending : (status : image.Status) → answer_of status ≢ outcome.InputFault
no_ending image.Running is = absurd (cc is)
no_ending (image.Ended (c.Done value)) is = absurd (cc is)
no_ending (image.Ended c.Stopped) is = absurd (cc is)
no_ending (image.Ended c.StackLimit) is = absurd (cc is)
no_ending (image.Trapped kind pc) is = absurd (cc is)
no_ending (image.Torn b) is = absurd (cc is)

-- and no image that has not failed answers by a trap or a break
right_has_no_trap : (status : image.Status) (trap : Trap) → has_failed status ≡ false → answer_of status ≢ outcome.Trap trap
right_has_no_trap image.Running trap right is = absurd (cc is)
right_has_no_trap (image.Ended (c.Done value)) trap right is = absurd (cc is)
right_has_no_trap (image.Ended c.Stopped) trap right is = absurd (cc is)
right_has_no_trap (image.Ended c.StackLimit) trap right is = absurd (cc is)
right_has_no_trap (image.Trapped kind pc) trap right is = absurd (cc right)
right_has_no_trap (image.Torn b) trap right is = absurd (cc right)

right_has_no_break : (status : image.Status) (torn : Torn) → has_failed status ≡ false → answer_of status ≢ outcome.Torn torn
right_has_no_break image.Running torn right is = absurd (cc is)
right_has_no_break (image.Ended (c.Done value)) torn right is = absurd (cc is)
right_has_no_break (image.Ended c.Stopped) torn right is = absurd (cc is)
right_has_no_break (image.Ended c.StackLimit) torn right is = absurd (cc is)
right_has_no_break (image.Trapped kind pc) torn right is = absurd (cc right)
right_has_no_break (image.Torn b) torn right is = absurd (cc right)

-- ---- what streams show

-- what a run has taken of an input and what is left of it are the whole
gave : (before after : Streams) (run : Run) (input : List ℕ) → IfSome before.input (λ left. left ≡ input) → IfSome before.input (λ _. after.input ≡ Some run.input) →
    run.taken ++ run.input ≡ input → Gave before after run.taken
gave before after run input told left whole = record { rest = run.input; had = had before.input told; has = left }
  where
    had : (stands : Option (List ℕ)) → IfSome stands (λ left. left ≡ input) → IfSome stands (λ bytes. bytes ≡ run.taken ++ run.input)
    had None is = is
    had (Some bytes) is = is ∙ sym whole

-- ---- the law

module _ (s : Setting) (l : Launch) (factor n : ℕ) (before after' : Streams) (input : List ℕ) (told : IfSome before.input (λ left. left ≡ input))
    (agrees : Agrees (machine_in s) (image_machine l) factor factor 1 (start s input) (first_run l input)) where
  abbrev run_at : ℕ → Run
  run_at k = image_after l input k

  abbrev right_at : ℕ → Type 0
  right_at m = (machine_in s).wrong (state_at s input m) ≡ false

  all_shown : (k : ℕ) → runs.Shows before after' (run_at k) → ShowsAll before after' (seen_of (run_at k))
  all_shown k shows = record { output = shows.output; log = shows.log; taken = gave before after' (run_at k) input told shows.input (input_kept l input k) }

  -- ---- what the machine does in time

  -- what it shows, the image shows
  shown_soon : (m : ℕ) → factor * (m + 1) ≤ n → right_at m → IsWithin ((machine_in s).seen (state_at s input m)) (seen_of (run_at n))
  shown_soon m le right = within_trans (agrees.down m right).seen
      (subst (λ (run : Run). IsWithin (seen_of (after (image_machine l) (factor * (m + 1)) (first_run l input))) (seen_of run)) (runs_are_the_machine l input n)
      (grows_until (image_machine l) (images_last l) (factor * (m + 1)) n (first_run l input) le))

  -- where it has ended, so has the image, and it shows the same
  ended_soon : (m : ℕ) → factor * (m + 1) ≤ n → (how : c.Outcome) → (state_at s input m).store.status ≡ c.Ended how →
      ((run_at n).status ≡ image.Ended how) × (seen_of (run_at n) ≡ (machine_in s).seen (state_at s input m))
  ended_soon m le how is =
      let at = state_at s input m in
      let walk = Some (walk_of s at.store) in
      let ends = (agrees.down m (right_ended at how is)).ends (ending_of how walk) (asks_end at how is) in
      let there = over_until (image_machine l) (images_last l) (ending_of how walk) _ (factor * (m + 1)) n (first_run l input) le ends in
      let same = runs_are_the_machine l input n in
      (image_ended l (run_at n).machine (run_at n).status how walk (sym (ap (image_machine l).asks same) ∙ there.0), sym (ap seen_of same) ∙ there.1)
    where
      right_ended : (at : State Todo) (how : c.Outcome) → at.store.status ≡ c.Ended how → (machine_in s).wrong at ≡ false
      right_ended at how is = rw is refl

      asks_end : (at : State Todo) (how : c.Outcome) → at.store.status ≡ c.Ended how → (machine_in s).asks at ≡ at_end (ending_of how (Some (walk_of s at.store)))
      asks_end at how is = ap (λ (status : c.Status). machine.event_at s status at.store (next_act (todo_control s.program) at.controls)) is

  told_soon : (answer : Outcome) → Ends before after' (run_at n) answer → (m : ℕ) → factor * (m + 1) ≤ n → (how : c.Outcome) → (state_at s input m).store.status ≡ c.Ended how →
      (answer ≡ answer_of (image.Ended how)) × (seen_of (run_at n) ≡ (machine_in s).seen (state_at s input m))
  told_soon answer ends m le how is = let there = ended_soon m le how is in (ends.answer ∙ ap answer_of there.0, there.1)

  -- ---- where the image stands, the machine does

  -- after k instructions
  module _ (k : ℕ) (le : k ≤ n) where
    abbrev Matched : Type 0
    Matched = IsMatched (machine_in s) (image_machine l) (1 * (k + 1)) (start s input) (after (image_machine l) k (first_run l input))

    erred : GoesWrong (machine_in s) (image_machine l) 1 k (start s input) (first_run l input) → Errs s input n (seen_of (run_at k))
    erred wrong = record {
      steps = wrong.steps;
      soon = omega (arith, wrong.soon, wrong.early, le);
      right = wrong.right;
      error = wrong.error;
      before =
          subst (λ (x : Seen ℕ). IsWithin x (seen_of (run_at k))) (sym wrong.level.seen)
          (subst (λ (run : Run). IsWithin (seen_of (after (image_machine l) wrong.taken (first_run l input))) (seen_of run)) (runs_are_the_machine l input k)
          (grows_until (image_machine l) (images_last l) wrong.taken k (first_run l input) wrong.early));
    }

    module _ (at : Matched) where
      stands : StandsAs (machine_in s) (image_machine l) (state_at s input at.steps) (run_at k)
      stands =
          subst (λ (run : Run). StandsAs (machine_in s) (image_machine l) (state_at s input at.steps) run) (runs_are_the_machine l input k) at.stands

      abbrev walk_shown : Option (List Activation)
      walk_shown = chain_walk l.image (region_of l) (run_at k).machine

      -- where the image has ended, so has the machine, and it shows the same
      ends_there : (how : c.Outcome) → (run_at k).status ≡ image.Ended how → Stands (machine_in s) (End (ending_of how walk_shown)) (seen_of (run_at k)) (state_at s input at.steps)
      ends_there how is = stands.asks (End (ending_of how walk_shown)) (ap (event_at l (run_at k).machine) is)

      ended_there : (how : c.Outcome) → (run_at k).status ≡ image.Ended how →
          ((state_at s input at.steps).store.status ≡ c.Ended how) × ((machine_in s).seen (state_at s input at.steps) ≡ seen_of (run_at k))
      ended_there how is = let there = ends_there how is in (machine_ended s _ _ _ how walk_shown there.0, there.1)

      -- and where the client stopped it, it leaves the same walk
      walk_there : (run_at k).status ≡ image.Ended c.Stopped → walk_shown ≡ Some (walk_of s (state_at s input at.steps).store)
      walk_there is =
          let state = state_at s input at.steps in
          let asks : at_end (ending_of c.Stopped (Some (walk_of s state.store))) ≡ at_end (ending_of c.Stopped walk_shown) =
          sym (ap (λ (status : c.Status). machine.event_at s status state.store (next_act (todo_control s.program) state.controls)) (ended_there c.Stopped is).0)
          ∙ (ends_there c.Stopped is).0 in
          sym (ap (λ (e : Ending). e.walk) (end_is _ _ asks))

      -- where the image is to take from the input, so is the machine
      takes_there : IsBeforeInput l (run_at k) → Stands (machine_in s) Input (seen_of (run_at k)) (state_at s input at.steps)
      takes_there here = stands.asks Input (ap (event_at l (run_at k).machine) here.running ∙ ap (asked_at l (run_at k).machine) here.asks)

      soon_enough : at.steps ≤ n
      soon_enough = omega (arith, at.soon, le)

      -- how a call whose answer is no fault stands there
      ended_stands : (answer : Outcome) (stood : rv.State) → (answer ≡ outcome.Stopped → (run_at k).machine ≡ stood) → Ends before after' (run_at k) answer →
          StandsThere s input n (seen_of (run_at k)) answer (chain_walk l.image (region_of l) stood)
      ended_stands answer stood is_stood ends = record {
        steps = at.steps;
        soon = soon_enough;
        right = at.right;
        least = stands.least;
        within = stands.most;
        comes = λ how is. ended_there how (answer_ended (run_at k).status how (sym is ∙ ends.answer));
        takes = λ fault. absurd (no_ending (run_at k).status (sym ends.answer ∙ fault));
        leaves = λ is. ap (chain_walk l.image (region_of l)) (sym (is_stood is)) ∙ walk_there (answer_ended (run_at k).status c.Stopped (sym is ∙ ends.answer));
        no_trap = λ trap is. right_has_no_trap (run_at k).status trap stands.right (sym ends.answer ∙ is);
        no_break = λ torn is. right_has_no_break (run_at k).status torn stands.right (sym ends.answer ∙ is);
      }

      -- and how one stands whose input failed, or its output
      fault_stands : (answer : Outcome) (walk : Option (List Activation)) → is_fault answer ≡ true → (answer ≡ outcome.InputFault → IsBeforeInput l (run_at k)) →
          StandsThere s input n (seen_of (run_at k)) answer walk
      fault_stands answer walk fault before = record {
        steps = at.steps;
        soon = soon_enough;
        right = at.right;
        least = stands.least;
        within = stands.most;
        comes = λ how is. absurd (fault_ends_nothing answer how fault is);
        takes = λ is. takes_there (before is);
        leaves = λ is. absurd (cc (sym fault ∙ ap is_fault is));
        no_trap = λ trap is. absurd (cc (sym fault ∙ ap is_fault is));
        no_break = λ torn is. absurd (cc (sym fault ∙ ap is_fault is));
      }

  -- ---- all that is said of a call

  abbrev Explained : Outcome → rv.State → Type 0
  Explained answer stood = IsExplained s factor n before after' answer (chain_walk l.image (region_of l) stood)

  abbrev StoodAt : Outcome → rv.State → Type 0
  StoodAt answer stood = answer ≡ outcome.Stopped → (run_at n).machine ≡ stood

  ended_explained : (answer : Outcome) (stood : rv.State) → StoodAt answer stood → Shows answer before after' (seen_of (run_at n)) ≡ ShowsAll before after' (seen_of (run_at n)) →
      Ends before after' (run_at n) answer → Explained answer stood
  ended_explained answer stood at shows ends = record {
    input = input;
    told = told;
    shown = seen_of (run_at n);
    shows = subst (λ (T : Type 0). T) (sym shows) (all_shown n ends.shows);
    soon = λ _ m le right. shown_soon m le right;
    ended = λ _ m le how is. told_soon answer ends m le how is;
    stands = elim (agrees.up n) [
      | inl matched ↦ inl (ended_stands n (omega arith) matched answer stood at ends)
      | inr wrong ↦ inr (erred n (omega arith) wrong)
    ];
  }

  explained : (answer : Outcome) (stood : rv.State) → StoodAt answer stood → Comes l n input before after' answer → Explained answer stood
  explained outcome.InputFault stood at comes = record {
    input = input;
    told = told;
    shown = seen_of (run_at comes.0);
    shows = all_shown comes.0 comes.3;
    soon = λ is _ _ _. absurd (cc is);
    ended = λ is _ _ _ _. absurd (cc is);
    stands = elim (agrees.up comes.0) [
      | inl matched ↦ inl (fault_stands comes.0 (omega (arith, comes.1)) matched outcome.InputFault (chain_walk l.image (region_of l) stood) refl (λ is. comes.2))
      | inr wrong ↦ inr (erred comes.0 (omega (arith, comes.1)) wrong)
    ];
  }
  explained outcome.OutputFault stood at comes = record {
    input = input;
    told = told;
    shown = seen_of (run_at n);
    shows = record { output = comes.output; log = comes.log };
    soon = λ is _ _ _. absurd (cc is);
    ended = λ is _ _ _ _. absurd (cc is);
    stands = elim (agrees.up n) [
      | inl matched ↦ inl (fault_stands n (omega arith) matched outcome.OutputFault (chain_walk l.image (region_of l) stood) refl (λ is. absurd (cc is)))
      | inr wrong ↦ inr (erred n (omega arith) wrong)
    ];
  }
  explained (outcome.Done value) stood at comes = ended_explained (outcome.Done value) stood at refl comes
  explained outcome.Stopped stood at comes = ended_explained outcome.Stopped stood at refl comes
  explained outcome.StackLimit stood at comes = ended_explained outcome.StackLimit stood at refl comes
  explained outcome.StepLimit stood at comes = ended_explained outcome.StepLimit stood at refl comes
  explained (outcome.Trap trap) stood at comes = ended_explained (outcome.Trap trap) stood at refl comes
  explained (outcome.Torn torn) stood at comes = ended_explained (outcome.Torn torn) stood at refl comes

pub runs_are_explained : RunsAreExplained
runs_are_explained s l factor n before after' answer stood ran agrees = explained s l factor n before after' ran.input ran.told agrees answer stood ran.stopped ran.comes

pub errors_last : ErrorsLast
errors_last s input most shown errs = by ((machine_in s).wrong (state_at s input (suc most))) refl
  where
    by : (wrong : Bool) → (machine_in s).wrong (state_at s input (suc most)) ≡ wrong → (machine_in s).wrong (state_at s input (suc most)) ≡ true
    by true is = is
    by false is =
        let right = right_until (machine_in s) (machine_lasts (todo_control s.program) s) (suc errs.steps) (suc most) (start s input) (omega (arith, errs.soon)) is in
        absurd (cc (sym errs.error ∙ right))
