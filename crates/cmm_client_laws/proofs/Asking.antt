-- What the tables find of a stopped program, and what they show of it, is what the walk over locations finds and shows.
use Rattle.std.proofs.Common.{◌≡◌, ℕ, zero, suc, ◌+◌, ◌≤◌, List, [], ◌∷◌, drop, map, Option, Some, None, refl, sym, ap, ◌∙◌, subst, arith}
use Rattle.std.specs.Prelude.{slice_get}
use Rattle.std.specs.List.{AllZip}
use Rattle.std.proofs.lemmas.Option.{same_Some}
use Rattle.rv_table.specs.Machine.{MemoryMap, State, bottom}
use Rattle.cmm_program.specs.declared.procedure.Proc.{Proc}
use Rattle.cmm_program.specs.declared.procedure.Site.{Site}
use Rattle.cmm_program.specs.Errors.{with_some}
use Rattle.cmm_program.specs.Frames.{Suspended, frame_address, procedure_at}
use Rattle.cmm_program.specs.State.{Setting, Activation}
use Rattle.cmm_program.specs.Walks.{site_shown}
use Rattle.cmm_chain.specs.Plans.{IsPlanned}
use Rattle.cmm_chain.specs.Chain.{Suspension}
use Rattle.cmm_chain.specs.Walks as chain
use Rattle.cmm_chain.specs.Walks.{Shows as ShowsSuspension, first_mark}
use Rattle.cmm_image.specs.declared.parts.ImageParts.{ImageParts}
use Rattle.cmm_program.specs.Client as client
use Rattle.cmm_program.specs.Client.{all_located, chain_behind, located, located_shown, values_at}
use Rattle.cmm_image_machine.specs.Frames.{Element, chain_of, older_than}
use Rattle.cmm_image_machine.specs.Walks.{element_shown}
use Rattle.cmm_emit_laws.specs.Words.{Symbols}
use Rattle.cmm_emit_laws.specs.Represented.{IsFor, stack_region}
use Rattle.cmm_emit_laws.proofs.Shared.{bottom_is, top_is}
use Rattle.cmm_located.specs.Answering.{activation_of, listed, shown}
use Rattle.cmm_located.specs.Compiled.{Compiled, Located}
use Rattle.cmm_machine_laws.specs.Alike.{ChainsAlike}
use Rattle.cmm_client_laws.specs.Asked.{AreAs, GoesOnAs, IsActivationAs, IsStoppedAs}
use Rattle.cmm_client_laws.specs.Tables.{HaveTables, IsProcedureRow, IsSiteRow}
use Rattle.cmm_client_laws.specs.Walked.{IsFoundAs, IsGhostOf, marked, shown_plan}
use Rattle.cmm_client_laws.proofs.Finding.{older_are_found}
use Rattle.cmm_client_laws.proofs.Lists.{drop_at, drop_map, zip_drop, zip_left}
use Rattle.cmm_client_laws.proofs.Showing.{AllSpots, AreSpots, element_same, procedure_row, site_row, suspended_here}
use Rattle.cmm_client_laws.proofs.Whole.{all_found, listed_is, shows_each, spots_each}

pub spots_get : (k : ℕ) (es : List chain.Element) (e : chain.Element) → AllSpots es → slice_get es k ≡ Some e → AreSpots e.mark
spots_get k [] e all is = absurd (cc)
spots_get zero (d ∷ es) e all is = let same : d ≡ e = cc in subst (λ (z : chain.Element). AreSpots z.mark) same all.0
spots_get (suc k) (d ∷ es) e all is = spots_get k es e all.1 is

spots_drop : (k : ℕ) (es : List chain.Element) → AllSpots es → AllSpots (drop k es)
spots_drop zero es all = all
spots_drop (suc k) [] all = tt
spots_drop (suc k) (e ∷ es) all = spots_drop k es all.1

module _ (s : Setting) (c : Compiled) (y : Symbols) (rest : ℕ → ℕ) (i : ImageParts) (tables : HaveTables s c y i) (planned : IsPlanned c.plan) (m : MemoryMap) (is_for : IsFor s m) where
  module _ (at : Located) (t : State) (same : IsStoppedAs s c y rest i at t) where
    abbrev marks : List chain.Element
    marks = marked c.plan same.suspended (first_mark at.holdings.point)

    pub lists : listed s c at ≡ marked c.plan same.suspended (first_mark at.holdings.point)
    lists = listed_is s c y rest i tables planned m is_for at [] t same.suspended same.walked same.shown

    -- the suspension of an activation, and all that is known of it
    pub record Known (a : client.Located) (x : Element) (e : chain.Element) : Type 0 where
      pub ghost : Activation
      pub suspension : Suspension
      pub is_there : slice_get same.suspended a.younger ≡ Some suspension
      pub is_ghost : slice_get at.store.activations a.younger ≡ Some ghost
      pub of : IsGhostOf s ghost suspension
      pub shows : ShowsSuspension (shown_plan s c) at.holdings suspension e
      pub spots : AreSpots e.mark
      pub marked_there : slice_get (marked c.plan same.suspended (first_mark at.holdings.point)) a.younger ≡ Some e
      pub proc : of.proc ≡ a.procedure
      pub site : of.site ≡ a.site

    pub known : (a : client.Located) (x : Element) → (is : IsActivationAs s c y i at a x) → Known a x is.element
    known a x is =
        let there : slice_get (marked c.plan same.suspended (first_mark at.holdings.point)) a.younger ≡ Some is.element =
        ap (λ (es : List chain.Element). slice_get es a.younger) (sym lists) ∙ is.is_listed in
        let shows = zip_left (ShowsSuspension (shown_plan s c) at.holdings) a.younger same.suspended (marked c.plan same.suspended (first_mark at.holdings.point)) is.element
        (shows_each s c y rest i tables planned m is_for at [] t same.suspended same.walked same.shown) there in
        let ghost = zip_left (IsGhostOf s) a.younger at.store.activations same.suspended shows.0 same.walked.ghosts shows.1 in
        let spots = spots_get a.younger (marked c.plan same.suspended (first_mark at.holdings.point)) is.element
        (spots_each s c y rest i tables planned m is_for at [] t same.suspended same.walked same.shown) there in
        let proc : ghost.2.proc ≡ a.procedure = same_Some ghost.2.proc a.procedure (sym ghost.2.is_procedure ∙ ap (procedure_at s) (sym shows.2.procedure) ∙ is.procedure) in
        let site : ghost.2.site ≡ a.site =
        same_Some ghost.2.site a.site (sym ghost.2.is_site ∙ ap (λ (p : Proc). slice_get p.sites shows.0.site) proc ∙ ap (λ (n : ℕ). slice_get a.procedure.sites n) (sym shows.2.site) ∙ is.site) in
        record {
          ghost = ghost.0;
          suspension = shows.0;
          is_there = shows.1;
          is_ghost = ghost.1;
          of = ghost.2;
          shows = shows.2;
          spots = spots;
          marked_there = there;
          proc = proc;
          site = site;
        }

    module _ (a : client.Located) (x : Element) (is : IsActivationAs s c y i at a x) where
      abbrev pub here : Known a x is.element
      here = known a x is

      pub proc_row : IsProcedureRow a.procedure (c.plan.frame here.suspension.procedure) y here.suspension.procedure x.procedure
      proc_row = subst (λ (p : Proc). IsProcedureRow p (c.plan.frame here.suspension.procedure) y here.suspension.procedure x.procedure) here.proc
          (procedure_row s c y i tables at.store.memory at t same.shown.holdings same.shown.words here.ghost here.suspension is.element x here.of here.shows is.found here.spots)

      pub row_of_site : IsSiteRow s c y here.suspension.procedure here.suspension.site a.procedure a.site x.site
      row_of_site =
          subst (λ (p : Proc). IsSiteRow s c y here.suspension.procedure here.suspension.site p a.site x.site) here.proc
          (subst (λ (k : Site). IsSiteRow s c y here.suspension.procedure here.suspension.site here.of.proc k x.site) here.site
          (site_row s c y i tables at.store.memory at t same.shown.holdings same.shown.words here.ghost here.suspension is.element x here.of here.shows is.found here.spots))

      values_there : values_at (drop a.younger (shown s c at).activations) ≡ (activation_of s c at is.element).variables
      values_there =
          let dropped : drop a.younger (shown s c at).activations ≡ activation_of s c at is.element ∷ map (activation_of s c at) (drop (suc a.younger) (listed s c at)) =
          drop_map (activation_of s c at) a.younger (listed s c at) ∙ ap (map (activation_of s c at)) (drop_at a.younger (listed s c at) is.element is.is_listed) in
          ap values_at dropped

      -- it is shown alike
      pub shown_alike : located_shown s (shown s c at) a ≡ element_shown t x
      shown_alike =
          let values = (activation_of s c at is.element).variables in
          ap (λ (vs : List ℕ). site_shown s a.procedure a.number a.site vs) values_there
          ∙ ap (λ (p : Proc). site_shown s p a.number a.site values) (sym here.proc)
          ∙ ap (λ (n : ℕ). site_shown s here.of.proc n a.site values) is.number
          ∙ ap (λ (site : Site). site_shown s here.of.proc is.element.site site values) (sym here.site)
          ∙ sym (element_same s c y i tables at.store.memory at t same.shown.holdings same.shown.words here.ghost here.suspension is.element x here.of here.shows is.found here.spots)

    -- ---- chains

    abbrev Is : client.Located → Element → Type 0
    Is a x = IsActivationAs s c y i at a x

    all_alike : (es : List chain.Element) (xs : List Element) (activations : List Activation) (suspended : List Suspension) (k : ℕ) →
        ((j : ℕ) (e : chain.Element) → slice_get es j ≡ Some e → slice_get (listed s c at) (k + j) ≡ Some e) → AllZip (IsGhostOf s) activations suspended →
        AllZip (ShowsSuspension (shown_plan s c) at.holdings) suspended es → AllZip (IsFoundAs i y) es xs → AllSpots es →
        AllZip (IsActivationAs s c y i at) (all_located s k (map (activation_of s c at) es)) xs
    all_alike [] [] [] [] k there ghosts shows found spots = tt
    all_alike (e ∷ es) (x ∷ xs) (a ∷ activations) (p ∷ suspended) k there ghosts shows found spots =
        let g = ghosts.0 in
        let at_site : Suspended = record { activation = activation_of s c at e; procedure = g.proc; number = e.site; site = g.site } in
        let first = suspended_here s c y i tables at.store.memory at t same.shown.holdings same.shown.words a p e x g shows.0 found.0 spots.0 (map (activation_of s c at) es) in
        let none : k + 0 ≡ k = omega arith in
        let rest = all_alike es xs activations suspended (suc k) (λ j d is.
        let more : k + suc j ≡ suc k + j = omega arith in subst (λ (n : ℕ). slice_get (listed s c at) n ≡ Some d) more (there (suc j) d is)) ghosts.1 shows.1 found.1 spots.1 in
        subst (λ (o : Option client.Located). AllZip (IsActivationAs s c y i at) (elim o as (λ _. List client.Located) [
          | Some here ↦ here ∷ all_located s (suc k) (map (activation_of s c at) es)
          | None ↦ []
        ]) (x ∷ xs)) (sym (ap (λ (o : Option Suspended). with_some o (λ z. Some (located k z))) first)) (
          record {
            element = e;
            is_listed = subst (λ (n : ℕ). slice_get (listed s c at) n ≡ Some e) none (there 0 e refl);
            found = found.0;
            procedure = ap (procedure_at s) shows.0.procedure ∙ g.is_procedure;
            number = refl;
            site = ap (λ (n : ℕ). slice_get g.proc.sites n) shows.0.site ∙ g.is_site;
          },
          rest,
        )
    all_alike [] xs (a ∷ activations) [] k there ghosts shows found spots = absurd ghosts
    all_alike [] xs [] (p ∷ suspended) k there ghosts shows found spots = absurd ghosts
    all_alike [] xs (a ∷ activations) (p ∷ suspended) k there ghosts shows found spots = absurd shows
    all_alike [] (x ∷ xs) [] [] k there ghosts shows found spots = absurd found
    all_alike (e ∷ es) [] activations suspended k there ghosts shows found spots = absurd found
    all_alike (e ∷ es) (x ∷ xs) [] [] k there ghosts shows found spots = absurd shows
    all_alike (e ∷ es) (x ∷ xs) (a ∷ activations) [] k there ghosts shows found spots = absurd ghosts
    all_alike (e ∷ es) (x ∷ xs) [] (p ∷ suspended) k there ghosts shows found spots = absurd ghosts

    pub chains_alike : ChainsAlike (IsStoppedAs s c y rest i) (AreAs s c y i) (GoesOnAs s c y rest i) at t (chain_behind s 0 (shown s c at)) (chain_of i (stack_region s) t)
    chains_alike =
        let found = all_found s c y rest i tables planned m is_for at [] t same.suspended same.walked same.shown in
        record {
          whole = refl;
          also = found.whole;
          each = subst (λ (es : List chain.Element). AllZip (IsActivationAs s c y i at) (all_located s 0 (map (activation_of s c at) es)) (chain_of i (stack_region s) t).activations) (sym lists)
              (all_alike marks (chain_of i (stack_region s) t).activations at.store.activations same.suspended 0
              (λ j e is. let none : j ≡ 0 + j = omega arith in ap (λ (n : ℕ). slice_get (listed s c at) n) (sym none) ∙ ap (λ (es : List chain.Element). slice_get es j) lists ∙ is)
              same.walked.ghosts (shows_each s c y rest i tables planned m is_for at [] t same.suspended same.walked same.shown) found.each
              (spots_each s c y rest i tables planned m is_for at [] t same.suspended same.walked same.shown));
        }

    drop_get : {A : Type 0} (k j : ℕ) (xs : List A) → slice_get (drop k xs) j ≡ slice_get xs (k + j)
    drop_get zero j xs = let same : j ≡ 0 + j = omega arith in ap (λ (n : ℕ). slice_get xs n) same
    drop_get (suc k) j [] = refl
    drop_get (suc k) j (z ∷ xs) = let same : suc (k + j) ≡ suc k + j = omega arith in drop_get k j xs ∙ ap (λ (n : ℕ). slice_get (z ∷ xs) n) same

    pub older_alike : (a : client.Located) (x : Element) → IsActivationAs s c y i at a x →
        ChainsAlike (IsStoppedAs s c y rest i) (AreAs s c y i) (GoesOnAs s c y rest i) at t (chain_behind s (suc a.younger) (shown s c at)) (older_than i (stack_region s) t x)
    older_alike a x is =
        let k = suc a.younger in
        let there = (known a x is).marked_there in
        let low : bottom (stack_region s) ≤ frame_address s at.store.activations = omega (arith, same.shown.stack.fits, bottom_is s m is_for) in
        let found = older_are_found s c y i (stack_region s) tables planned at.store.memory at.holdings.contents t.memory same.shown.words
        (top_is s m is_for) is_for.set.aligned a.younger same.suspended at.store.activations at.holdings.point
        (first_mark at.holdings.point) is.element x same.walked.ghosts same.walked.chain refl (omega (arith, low, same.shown.at)) there is.found in
        let dropped : drop k (shown s c at).activations ≡ map (activation_of s c at) (drop k marks) =
        drop_map (activation_of s c at) k (listed s c at) ∙ ap (λ (es : List chain.Element). map (activation_of s c at) (drop k es)) lists in
        record {
          whole = refl;
          also = found.whole;
          each = subst (λ (as_ : List Activation). AllZip (IsActivationAs s c y i at) (all_located s k as_) (older_than i (stack_region s) t x).activations) (sym dropped)
              (all_alike (drop k marks) (older_than i (stack_region s) t x).activations (drop k at.store.activations) (drop k same.suspended) k
              (λ j e is. ap (λ (es : List chain.Element). slice_get es (k + j)) lists ∙ sym (drop_get k j marks) ∙ is)
              (zip_drop (IsGhostOf s) k at.store.activations same.suspended same.walked.ghosts)
              (zip_drop (ShowsSuspension (shown_plan s c) at.holdings) k same.suspended marks (shows_each s c y rest i tables planned m is_for at [] t same.suspended same.walked same.shown)) found.each
              (spots_drop k marks (spots_each s c y rest i tables planned m is_for at [] t same.suspended same.walked same.shown)));
        }
