-- A stopped located program answers a client as the image does.
use Rattle.std.proofs.Common.{◌≡◌, ℕ, List, [], ◌∷◌, map, Option, Some, None, sym, ap, ◌∙◌}
use Rattle.std.specs.List.{AllZip}
use Rattle.cmm_script.specs.declared.script.Script.{Script}
use Rattle.rv_table.specs.Machine.{MemoryMap, State}
use Rattle.cmm_program.specs.Errors.{with_some}
use Rattle.cmm_program.specs.Frames.{Suspended}
use Rattle.cmm_program.specs.State.{Setting, Activation}
use Rattle.cmm_chain.specs.Plans.{IsPlanned}
use Rattle.cmm_chain.specs.Chain.{Suspension}
use Rattle.cmm_chain.specs.Walks as chain
use Rattle.cmm_chain.specs.Walks.{Shows as ShowsSuspension}
use Rattle.cmm_image.specs.declared.parts.ImageParts.{ImageParts}
use Rattle.cmm_program.specs.Client as client
use Rattle.cmm_program.specs.Client.{all_located, chain_behind, located}
use Rattle.cmm_program.specs.Commands.{answer_to}
use Rattle.cmm_image_machine.specs.Frames.{Element, chain_of}
use Rattle.cmm_image_machine.specs.Machine.{askable}
use Rattle.cmm_emit_laws.specs.Words.{Symbols}
use Rattle.cmm_emit_laws.specs.Represented.{IsFor, stack_region}
use Rattle.cmm_located.specs.Answering.{activation_of, places_askable, shown}
use Rattle.cmm_located.specs.Clients.{AreApart}
use Rattle.cmm_located.specs.Compiled.{Compiled, Located}
use Rattle.cmm_located.specs.SameOrders.{HasFrames}
use Rattle.cmm_located.specs.ShownWalks.{KnowsLive}
use Rattle.cmm_machine_laws.specs.Alike.{AnswersAlike, AreAlike}
use Rattle.cmm_machine_laws.proofs.Shared.{answers_are_alike}
use Rattle.cmm_client_laws.specs.Asked.{AreAs, GoesOnAs, IsStoppedAs}
use Rattle.cmm_client_laws.specs.Tables.{HaveTables}
use Rattle.cmm_client_laws.specs.Walked.{IsFoundAs, IsGhostOf, shown_plan}
use Rattle.cmm_client_laws.proofs.Asking.{chains_alike, lists, older_alike, shown_alike}
use Rattle.cmm_client_laws.proofs.Exits.{cuts_alike, returns_alike, unwinds_alike}
use Rattle.cmm_client_laws.proofs.Poking.{pokes_alike}
use Rattle.cmm_client_laws.proofs.Setting.{set_alike}
use Rattle.cmm_client_laws.proofs.Showing.{AllSpots, suspended_here}
use Rattle.cmm_client_laws.proofs.Whole.{all_found, shows_each, spots_each}

module _ (s : Setting) (c : Compiled) (y : Symbols) (rest : ℕ → ℕ) (i : ImageParts) (tables : HaveTables s c y i) (planned : IsPlanned c.plan) (m : MemoryMap) (is_for : IsFor s m)
    (frames : HasFrames s c) (apart : AreApart c) (knows : KnowsLive s c) where
  -- the first activation of a chain is the youngest
  module _ (at : Located) (t : State) (same : IsStoppedAs s c y rest i at t) where
    first_is : (es : List chain.Element) (xs : List Element) (activations : List Activation) (suspended : List Suspension) → AllZip (IsGhostOf s) activations suspended →
        AllZip (ShowsSuspension (shown_plan s c) at.holdings) suspended es → AllZip (IsFoundAs i y) es xs → AllSpots es → (a : client.Located) (older : List client.Located) →
        all_located s 0 (map (activation_of s c at) es) ≡ a ∷ older → a.younger ≡ 0
    first_is [] xs activations suspended ghosts shows found spots a older is = absurd (cc)
    first_is (e ∷ es) (x ∷ xs) (b ∷ activations) (p ∷ suspended) ghosts shows found spots a older is =
        let here : Suspended = record { activation = activation_of s c at e; procedure = ghosts.0.proc; number = e.site; site = ghosts.0.site } in
        let first = suspended_here s c y i tables at.store.memory at t same.shown.holdings same.shown.words b p e x ghosts.0 shows.0 found.0 spots.0 (map (activation_of s c at) es) in
        let there : located 0 here ∷ all_located s 1 (map (activation_of s c at) es) ≡ a ∷ older =
        sym (ap (λ (o : Option Suspended). elim (with_some o (λ z. Some (located 0 z))) as (λ _. List client.Located) [
          | Some here ↦ here ∷ all_located s 1 (map (activation_of s c at) es)
          | None ↦ []
        ]) first) ∙ is in
        let one : located 0 here ≡ a = cc in
        ap (λ (z : client.Located). z.younger) (sym one)
    first_is (e ∷ es) [] activations suspended ghosts shows found spots a older is = absurd found
    first_is (e ∷ es) (x ∷ xs) [] [] ghosts shows found spots a older is = absurd shows
    first_is (e ∷ es) (x ∷ xs) (b ∷ activations) [] ghosts shows found spots a older is = absurd ghosts
    first_is (e ∷ es) (x ∷ xs) [] (p ∷ suspended) ghosts shows found spots a older is = absurd ghosts

    youngest_is : (a : client.Located) (older : List client.Located) → (chain_behind s 0 (shown s c at)).activations ≡ a ∷ older → a.younger ≡ 0
    youngest_is a older is =
        first_is _ (chain_of i (stack_region s) t).activations at.store.activations same.suspended same.walked.ghosts
        (shows_each s c y rest i tables planned m is_for at [] t same.suspended same.walked same.shown)
        (all_found s c y rest i tables planned m is_for at [] t same.suspended same.walked same.shown).each
        (spots_each s c y rest i tables planned m is_for at [] t same.suspended same.walked same.shown) a older
        (ap (λ (es : List chain.Element). all_located s 0 (map (activation_of s c at) es)) (sym (lists s c y rest i tables planned m is_for at t same)) ∙ is)

  -- they are asked alike
  pub asked_alike : AreAlike (IsStoppedAs s c y rest i) (AreAs s c y i) (GoesOnAs s c y rest i) (places_askable s c) (askable i (stack_region s))
  asked_alike = record {
    chain = λ at t same. chains_alike s c y rest i tables planned m is_for at t same;
    running = λ at t same. chains_alike s c y rest i tables planned m is_for at t same;
    older = λ at t a x same is. older_alike s c y rest i tables planned m is_for at t same a x is;
    shown = λ at t a x same is. shown_alike s c y rest i tables planned m is_for at t same a x is;
    set = λ at t a x n value v old same is shows valued fits. set_alike s c y rest i tables planned m is_for apart knows at t same a x n value v old is shows valued fits;
    poked = λ at t name offset bytes are same. pokes_alike s c y rest i tables m is_for at t same name offset bytes are;
    returned = λ at t a x older others n same is first also. returns_alike s c y rest i tables planned m is_for frames at t same a x is (youngest_is at t same a older first) n;
    unwound = λ at t a x n same is. unwinds_alike s c y rest i tables planned m is_for frames at t same a x is n;
    cut = λ at t a x value same is. cuts_alike s c y rest i tables planned m is_for frames at t same a x is value;
  }

  -- and so they answer a yield alike
  pub answers_alike : (script : Script) (yielded : List ℕ) (at : Located) (t : State) → IsStoppedAs s c y rest i at t →
      AnswersAlike (IsStoppedAs s c y rest i) (AreAs s c y i) (GoesOnAs s c y rest i) (answer_to (places_askable s c) script yielded at) (answer_to (askable i (stack_region s)) script yielded t)
  answers_alike script yielded at t same =
      answers_are_alike (IsStoppedAs s c y rest i) (AreAs s c y i) (GoesOnAs s c y rest i) (places_askable s c) (askable i (stack_region s)) asked_alike script yielded at t same
