-- The client's answer is one instruction of the image.
use Rattle.std.proofs.Common.{◌≡◌, inl, inr, ℕ, suc, ◌+◌, ◌<◌, List, [], ◌∷◌, ◌++◌, length, Option, Some, None, refl, sym, ap, ◌∙◌, subst, arith}
use Rattle.std.specs.Prelude.{slice_index_or}
use Rattle.std.specs.List.{AllZip}
use Rattle.cmm_script.specs.declared.script.Script.{Script}
use Rattle.cmm_script.specs.Lines.{yield_line}
use Rattle.cmm_script.specs.Walk as walk
use Rattle.rv_table.specs.declared.request.Request.TheVariants.{Yield}
use Rattle.rv_table.specs.Machine.{Region, State}
use Rattle.cmm_abi.specs.Regions.{Place, InRegister, InMemory, value_place, values_from, values_in, word_at}
use Rattle.cmm_program.specs.Asking.{Break}
use Rattle.cmm_program.specs.Commands as client
use Rattle.cmm_program.specs.Commands.{Answer, Left, answer_to}
use Rattle.cmm_program.specs.State as program
use Rattle.cmm_program.specs.State.{Setting, Activation}
use Rattle.cmm_program.specs.Walks.{walk_of}
use Rattle.cmm_machine_laws.specs.Alike.{AnswersAlike, LeftAlike}
use Rattle.cmm_machine_laws.specs.Observed.{Call}
use Rattle.cmm_chain.specs.Plans.{IsPlanned}
use Rattle.cmm_chain.specs.Walks as chain
use Rattle.cmm_chain.specs.Walks.{Shows as ShowsSuspension, first_mark}
use Rattle.cmm_image_machine.specs.Changes.{at_pc}
use Rattle.cmm_image_machine.specs.Frames.{Element, chain_of}
use Rattle.cmm_image_machine.specs.Machine.{Launch, Run, Running, askable, left, map_of, region_of, requested, yielded, yielded_at, yields}
use Rattle.cmm_image_machine.specs.Observed.{call_at}
use Rattle.cmm_image_machine.specs.Walks.{chain_walk}
use Rattle.cmm_emit_laws.specs.Words.{Symbols, RepresentsValues}
use Rattle.cmm_emit_laws.specs.Represented.{IsFor, IsRepresented, stack_region}
use Rattle.cmm_emit_laws.proofs.Shared.{forget_values, outside_shows}
use Rattle.cmm_located.specs.Answering.{answered_at, left_at, listed, logged_as, places_askable, shown}
use Rattle.cmm_located.specs.Clients.{AreApart}
use Rattle.cmm_located.specs.Compiled.{Compiled, Located}
use Rattle.cmm_located.specs.SameOrders.{HasFrames}
use Rattle.cmm_located.specs.ShownWalks.{KnowsLive}
use Rattle.cmm_client_laws.specs.Asked.{AreAs, GoesOnAs, IsAtExit, IsResumedAs, IsStoppedAs}
use Rattle.cmm_client_laws.specs.Tables.{HaveTables}
use Rattle.cmm_client_laws.specs.Waiting.{IsClientDone, IsWaitingAs}
use Rattle.cmm_client_laws.specs.Walked.{AreFoundAs, IsFoundAs, IsGhostOf, mark_to, back_of, marked, shown_plan}
use Rattle.cmm_client_laws.proofs.Answering.{answers_alike}
use Rattle.cmm_client_laws.proofs.Resuming.{log_shows, pc_shows}
use Rattle.cmm_client_laws.proofs.Sound.{sound_pc}
use Rattle.cmm_client_laws.proofs.Showing.{AllSpots, site_row}
use Rattle.cmm_client_laws.proofs.Whole.{all_found, listed_is, shows_each, spots_each, walk_is}

-- ---- the values of a yield

values_are : (w : Region) (t : State) (vs : List ℕ) (k : ℕ) → ((j : ℕ) → j < length vs → word_at t (value_place w (k + j)) ≡ slice_index_or vs j 0) →
    values_from w t k (length vs) ≡ vs
values_are w t [] k are = refl
values_are w t (v ∷ vs) k are =
    let none : k + 0 ≡ k = omega arith in
    let first : word_at t (value_place w k) ≡ v = ap (λ (n : ℕ). word_at t (value_place w n)) (sym none) ∙ are 0 (omega arith) in
    let rest = values_are w t vs (suc k) (λ j less. let more : suc k + j ≡ k + suc j = omega arith in
    ap (λ (n : ℕ). word_at t (value_place w n)) more ∙ are (suc j) (omega (arith, less))) in
    ap (λ (n : ℕ). n ∷ values_from w t (suc k) (length vs)) first ∙ ap (λ (ws : List ℕ). v ∷ ws) rest

pub shown_values : (w : Region) (t : State) (vs : List ℕ) → RepresentsValues w vs t → values_in w t (length vs) ≡ vs
shown_values w t vs shows = values_are w t vs 0 (λ j less. let none : 0 + j ≡ j = omega arith in ap (λ (n : ℕ). word_at t (value_place w n)) none ∙ shows.1 j less)

-- wherever control is
pc_values : (w : Region) (vs : List ℕ) (t : State) (pc : ℕ) → RepresentsValues w vs t → RepresentsValues w vs (at_pc pc t)
pc_values w vs t pc shows = (shows.0, λ i less. by (value_place w i) ∙ shows.1 i less)
  where
    by : (place : Place) → word_at (at_pc pc t) place ≡ word_at t place
    by (InRegister r) = refl
    by (InMemory a) = refl

-- ---- neither the log nor the status is represented

module _ (s : Setting) (c : Compiled) (y : Symbols) (rest : ℕ → ℕ) (l : Launch) (tables : HaveTables s c y l.image) (planned : IsPlanned c.plan) (is_for : IsFor s (map_of l))
    (region : stack_region s ≡ region_of l) (frames : HasFrames s c) (apart : AreApart c) (knows : KnowsLive s c) (scripts : l.script ≡ s.script) where
  stopped_too : (at : Located) (t : State) (log : List ℕ) (status : program.Status) → IsStoppedAs s c y rest l.image at t →
      IsStoppedAs s c y rest l.image (record at { store = record at.store { log = log; status = status } }) t
  stopped_too at t log status same = record {
    suspended = same.suspended;
    walked = same.walked;
    sound = same.sound;
    shown = outside_shows y rest s at.holdings at.store [] t at.store.input at.store.taken at.store.output log status same.shown;
  }

  exit_too : (at : Located) (t : State) (log : List ℕ) → IsAtExit s c y l.image at t → IsAtExit s c y l.image (logged_as log at) t
  exit_too at t log (IsAtExit.Alternate p site number n k a b d e f) = IsAtExit.Alternate p site number n k a b d e f
  exit_too at t log (IsAtExit.Normal p site number out a b d e f) = IsAtExit.Normal p site number out a b d e f
  exit_too at t log (IsAtExit.Landing k a b) = IsAtExit.Landing k a b

  resumed_too : (at : Located) (t : State) (log : List ℕ) → IsResumedAs s c y rest l.image at t → IsResumedAs s c y rest l.image (logged_as log at) t
  resumed_too at t log same = record {
    activation = same.activation;
    older = same.older;
    youngest = same.youngest;
    same = same.same;
    sound = same.sound;
    shown = log_shows y rest s at.holdings at.store at.carried t log same.shown;
    control = exit_too at t log same.control;
  }

  module _ (values : List ℕ) (at : Located) (run : Run) (waits : IsWaitingAs s c y rest l.image values at run.machine) where
    same : IsStoppedAs s c y rest l.image at (at_pc (run.machine.pc + 4) run.machine)
    same = record {
      suspended = waits.youngest ∷ waits.older;
      walked = waits.walked;
      sound = sound_pc run.machine (run.machine.pc + 4) waits.sound;
      shown = pc_shows y rest s at.holdings at.store [] run.machine (run.machine.pc + 4) (forget_values y rest s at.holdings at.store values run.machine waits.shown);
    }

    abbrev shown_here : IsRepresented y rest s at.holdings at.store [] (at_pc (run.machine.pc + 4) run.machine)
    shown_here = pc_shows y rest s at.holdings at.store [] run.machine (run.machine.pc + 4) (forget_values y rest s at.holdings at.store values run.machine waits.shown)

    abbrev first_element : chain.Element
    first_element = record { procedure = waits.youngest.procedure; site = waits.youngest.site; mark = first_mark at.holdings.point }

    abbrev older_elements : List chain.Element
    older_elements = marked c.plan waits.older (mark_to c.plan waits.youngest.procedure (back_of waits.older) (first_mark at.holdings.point))

    found : AreFoundAs l.image y (first_element ∷ older_elements) (chain_of l.image (region_of l) (at_pc (run.machine.pc + 4) run.machine))
    found = subst (λ (w : Region). AreFoundAs l.image y (first_element ∷ older_elements) (chain_of l.image w (at_pc (run.machine.pc + 4) run.machine))) region
        (all_found s c y rest l.image tables planned (map_of l) is_for at [] (at_pc (run.machine.pc + 4) run.machine) (waits.youngest ∷ waits.older) waits.walked shown_here)

    shows : AllZip (ShowsSuspension (shown_plan s c) at.holdings) (waits.youngest ∷ waits.older) (first_element ∷ older_elements)
    shows = shows_each s c y rest l.image tables planned (map_of l) is_for at [] (at_pc (run.machine.pc + 4) run.machine) (waits.youngest ∷ waits.older) waits.walked shown_here

    spots : AllSpots (first_element ∷ older_elements)
    spots = spots_each s c y rest l.image tables planned (map_of l) is_for at [] (at_pc (run.machine.pc + 4) run.machine) (waits.youngest ∷ waits.older) waits.walked shown_here

    -- the values that the youngest activation's site yields
    given_there : (t : State) → RepresentsValues (stack_region s) values t → (a : Activation) (x : Element) (others : List Element) → IsGhostOf s a waits.youngest →
        IsFoundAs l.image y first_element x → yielded_at (region_of l) t (x ∷ others) ≡ values
    given_there t shown_values_there a x others g is_found =
        let row = site_row s c y l.image tables at.store.memory at (at_pc (run.machine.pc + 4) run.machine) shown_here.holdings shown_here.words a waits.youngest first_element x g shows.0 is_found
        spots.0 in
        let count : x.site.yield_values ≡ Some (length values) = row.yield_values ∙ waits.yields a g in
        ap (λ (o : Option ℕ). elim o as (λ _. List ℕ) [ Some n ↦ values_in (region_of l) t n | None ↦ [] ]) count
        ∙ shown_values (region_of l) t values (subst (λ (w : Region). RepresentsValues w values t) region shown_values_there)

    -- ---- what the client sees

    pub call_is : call_at l run.machine ≡ record { values = values; walk = Some (walk_of s (shown s c at)) }
    call_is =
        let shown_now = forget_values y rest s at.holdings at.store values run.machine waits.shown in
        let walks : chain_walk l.image (region_of l) run.machine ≡ Some (walk_of s (shown s c at)) =
        subst (λ (w : Region). chain_walk l.image w run.machine ≡ Some (walk_of s (shown s c at))) region
        (walk_is s c y rest l.image tables planned (map_of l) is_for at [] run.machine (waits.youngest ∷ waits.older) waits.walked shown_now) in
        let all = subst (λ (w : Region). AreFoundAs l.image y (first_element ∷ older_elements) (chain_of l.image w run.machine)) region
        (all_found s c y rest l.image tables planned (map_of l) is_for at [] run.machine (waits.youngest ∷ waits.older) waits.walked shown_now) in
        ap (λ (w : Option (List walk.Activation)). call_of (yielded_at (region_of l) run.machine (chain_of l.image (region_of l) run.machine).activations) w) walks
        ∙ ap (λ (vs : List ℕ). call_of vs (Some (walk_of s (shown s c at)))) (by at.store.activations (chain_of l.image (region_of l) run.machine).activations waits.walked.ghosts all.each)
      where
        call_of : List ℕ → Option (List walk.Activation) → Call
        call_of vs w = record { values = vs; walk = w }

        by : (activations : List Activation) (xs : List Element) → AllZip (IsGhostOf s) activations (waits.youngest ∷ waits.older) → AllZip (IsFoundAs l.image y) (first_element ∷ older_elements) xs →
            yielded_at (region_of l) run.machine xs ≡ values
        by (a ∷ activations) (x ∷ others) ghosts all = given_there run.machine waits.shown.values a x others ghosts.0 all.0
        by (a ∷ activations) [] ghosts all = absurd all
        by [] xs ghosts all = absurd ghosts

    -- ---- what the answer comes to

    module _ (going : run.status ≡ Running) (logged : run.log ≡ waits.front) where
      abbrev with_text : List ℕ → Run
      with_text text = record run { machine = at_pc (run.machine.pc + 4) run.machine; log = run.log ++ yield_line values ++ text }

      after_line : (text other : List ℕ) → text ≡ other → at.store.log ++ text ≡ run.log ++ yield_line values ++ other
      after_line text other alike =
          ap (λ (w : List ℕ). w ++ text) (waits.logged ∙ ap (λ (w : List ℕ). w ++ yield_line values) (sym logged))
          ∙ ap (λ (w : List ℕ). run.log ++ yield_line values ++ w) alike

      abbrev Alike : Left Located Located → Left State State → Type 0
      Alike x z = LeftAlike (IsStoppedAs s c y rest l.image) (AreAs s c y l.image) (GoesOnAs s c y rest l.image) x z

      goes_on : (text other : List ℕ) → text ≡ other → (r : Located) (u : State) → GoesOnAs s c y rest l.image r u →
          IsClientDone s c y rest l.image (left_at s c at.store.log record { text = text; left = client.Running r }) (left (client.Running u) (with_text other))
      goes_on text other alike r u (inl wrong) = IsClientDone.GoesWrong wrong.0 wrong.1
      goes_on text other alike r u (inr on) = IsClientDone.GoesOn going on.0 (resumed_too r u (at.store.log ++ text) on.1) (after_line text other alike)

      finish : (text other : List ℕ) → text ≡ other → (x : Left Located Located) (z : Left State State) → Alike x z →
          IsClientDone s c y rest l.image (left_at s c at.store.log record { text = text; left = x }) (left z (with_text other))
      finish text other alike (client.Running r) (client.Running u) both = goes_on text other alike r u both
      finish text other alike (client.Stopped r) (client.Stopped u) both =
          IsClientDone.IsOver refl refl (stopped_too r u (at.store.log ++ text) (program.Ended program.Stopped) both) (after_line text other alike)
      finish text other alike (client.Running r) (client.Stopped u) both = absurd both
      finish text other alike (client.Running r) (client.Torn b u) both = absurd both
      finish text other alike (client.Stopped r) (client.Running u) both = absurd both
      finish text other alike (client.Stopped r) (client.Torn b u) both = absurd both
      finish text other alike (client.Torn b r) z both = absurd both

      answered_here : IsClientDone s c y rest l.image (answered_at s c values at) (yields l values (record run { machine = at_pc (run.machine.pc + 4) run.machine }))
      answered_here =
          let same_region = subst (λ (w : Region). AnswersAlike (IsStoppedAs s c y rest l.image) (AreAs s c y l.image) (GoesOnAs s c y rest l.image) (answer_to (places_askable s c) s.script values at)
          (answer_to (askable l.image w) s.script values (at_pc (run.machine.pc + 4) run.machine))) region
          (answers_alike s c y rest l.image tables planned (map_of l) is_for frames apart knows s.script values at (at_pc (run.machine.pc + 4) run.machine) same) in
          let both = subst (λ (script : Script). AnswersAlike (IsStoppedAs s c y rest l.image) (AreAs s c y l.image) (GoesOnAs s c y rest l.image) (answer_to (places_askable s c) s.script values at)
          (answer_to (askable l.image (region_of l)) script values (at_pc (run.machine.pc + 4) run.machine))) (sym scripts) same_region in
          finish (answer_to (places_askable s c) s.script values at).text (answer_to (askable l.image (region_of l)) l.script values (at_pc (run.machine.pc + 4) run.machine)).text both.text
          (answer_to (places_askable s c) s.script values at).left (answer_to (askable l.image (region_of l)) l.script values (at_pc (run.machine.pc + 4) run.machine)).left both.left

      by_chain : (activations : List Activation) (xs : List Element) (broken : Option Break) → AllZip (IsGhostOf s) activations (waits.youngest ∷ waits.older) →
          AllZip (IsFoundAs l.image y) (first_element ∷ older_elements) xs →
          IsClientDone s c y rest l.image (answered_at s c values at)
          (yielded l (record { activations = xs; broken = broken }) (record run { machine = at_pc (run.machine.pc + 4) run.machine }))
      by_chain (a ∷ activations) (x ∷ others) broken ghosts all =
          let got = given_there (at_pc (run.machine.pc + 4) run.machine) (pc_values (stack_region s) values run.machine (run.machine.pc + 4) waits.shown.values) a x others ghosts.0 all.0 in
          subst (λ (vs : List ℕ). IsClientDone s c y rest l.image (answered_at s c values at) (yields l vs (record run { machine = at_pc (run.machine.pc + 4) run.machine }))) (sym got) answered_here
      by_chain (a ∷ activations) [] broken ghosts all = absurd all
      by_chain [] xs broken ghosts all = absurd ghosts

      -- the yield, and the client's answer
      pub client_done : IsClientDone s c y rest l.image (answered_at s c values at) (requested l run Yield)
      client_done =
          let chain_here = chain_of l.image (region_of l) (at_pc (run.machine.pc + 4) run.machine) in
          by_chain at.store.activations chain_here.activations chain_here.broken waits.walked.ghosts found.each

  -- once the client has stopped the run, its walk is that of the image
  pub ending_is : (at : Located) (t : State) → IsStoppedAs s c y rest l.image at t → chain_walk l.image (region_of l) t ≡ Some (walk_of s (shown s c at))
  ending_is at t same =
      subst (λ (w : Region). chain_walk l.image w t ≡ Some (walk_of s (shown s c at))) region
      (walk_is s c y rest l.image tables planned (map_of l) is_for at [] t same.suspended same.walked same.shown)

  -- and the chain of its tables is that of the activations
  pub chain_there : (at : Located) (t : State) → IsStoppedAs s c y rest l.image at t → AreFoundAs l.image y (listed s c at) (chain_of l.image (region_of l) t)
  chain_there at t same =
      subst (λ (w : Region). AreFoundAs l.image y (listed s c at) (chain_of l.image w t)) region
      (subst (λ (es : List chain.Element). AreFoundAs l.image y es (chain_of l.image (stack_region s) t))
      (sym (listed_is s c y rest l.image tables planned (map_of l) is_for at [] t same.suspended same.walked same.shown))
      (all_found s c y rest l.image tables planned (map_of l) is_for at [] t same.suspended same.walked same.shown))
