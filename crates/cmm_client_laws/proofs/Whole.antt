-- The walk of the image is that of the located machine.
use Rattle.std.proofs.Common.{◌≡◌, ℕ, ◌≤◌, List, [], ◌∷◌, map, length, Option, Some, None, refl, sym, ap, ◌∙◌, subst, arith}
use Rattle.std.specs.List.{AllZip}
use Rattle.cmm_script.specs.Walk as walk
use Rattle.rv_table.specs.Machine.{MemoryMap, State}
use Rattle.cmm_program.specs.Frames.{frame_address}
use Rattle.cmm_program.specs.State.{Setting, Activation, stack_top}
use Rattle.cmm_program.specs.Walks.{activations_shown, walk_of}
use Rattle.cmm_chain.specs.Plans.{IsPlanned}
use Rattle.cmm_chain.specs.Chain.{Suspension}
use Rattle.cmm_chain.specs.Walks as chain
use Rattle.cmm_chain.specs.Walks.{Mark, Shows as ShowsSuspension, first_mark, walk_from}
use Rattle.cmm_chain.proofs.Shared.{walk_lists_chain}
use Rattle.cmm_image.specs.declared.parts.ImageParts.{ImageParts}
use Rattle.cmm_program.specs.Asking.{Break}
use Rattle.cmm_image_machine.specs.Frames.{chain_of, first_point}
use Rattle.cmm_abi.specs.Regions.{bottom}
use Rattle.cmm_image_machine.specs.Walks.{chain_walk, element_shown}
use Rattle.cmm_emit_laws.specs.Words.{Symbols}
use Rattle.cmm_emit_laws.specs.Represented.{IsFor, IsRepresented, stack_region}
use Rattle.cmm_emit_laws.proofs.Shared.{bottom_is, top_is}
use Rattle.cmm_located.specs.Answering.{activation_of, listed, shown}
use Rattle.cmm_located.specs.Compiled.{Compiled, Located}
use Rattle.cmm_client_laws.specs.Tables.{HaveTables}
use Rattle.cmm_client_laws.specs.Walked.{AreFoundAs, IsGhostOf, IsWalked, live_at, marked, shown_plan}
use Rattle.cmm_client_laws.proofs.Listing.{back_is, marked_live, walk_is_marked}
use Rattle.cmm_client_laws.proofs.Finding.{chain_is_found}
use Rattle.cmm_client_laws.proofs.Showing.{AllSpots, all_spots, walk_same}

pub as_many : (s : Setting) (activations : List Activation) (suspended : List Suspension) → AllZip (IsGhostOf s) activations suspended → length suspended ≡ length activations
as_many s [] [] ghosts = refl
as_many s (a ∷ activations) (t ∷ suspended) ghosts = let rest = as_many s activations suspended ghosts.1 in omega (arith, rest)
as_many s [] (t ∷ suspended) ghosts = absurd ghosts
as_many s (a ∷ activations) [] ghosts = absurd ghosts

module _ (s : Setting) (c : Compiled) (y : Symbols) (rest : ℕ → ℕ) (i : ImageParts) (tables : HaveTables s c y i) (planned : IsPlanned c.plan) (m : MemoryMap) (is_for : IsFor s m)
    (at : Located) (carried : List ℕ) (t : State) (suspended : List Suspension) (walked : IsWalked s c at.holdings at.store.activations suspended)
    (is_shown : IsRepresented y rest s at.holdings at.store carried t) where
  abbrev marks : List chain.Element
  marks = marked c.plan suspended (first_mark at.holdings.point)

  -- the tables find what the walk lists
  pub all_found : AreFoundAs i y (marked c.plan suspended (first_mark at.holdings.point)) (chain_of i (stack_region s) t)
  all_found =
      let h = at.holdings in
      let back : h.point.back ≡ _ = back_is (shown_plan s c) (stack_top s) h.contents suspended h.point walked.chain in
      let low : bottom (stack_region s) ≤ frame_address s at.store.activations = omega (arith, is_shown.stack.fits, bottom_is s m is_for) in
      chain_is_found s c y i (stack_region s) tables planned at.store.memory h.contents t.memory is_shown.words (top_is s m is_for) is_for.set.aligned suspended at.store.activations h.point
      (first_mark h.point) (first_point t) walked.ghosts walked.chain refl back is_shown.holdings.frame is_shown.holdings.back (λ n. refl)
      (omega (arith, low, is_shown.at, is_shown.holdings.frame))

  many : length suspended ≤ length at.store.activations
  many = let same = as_many s at.store.activations suspended walked.ghosts in omega (arith, same)

  pub listed_is : listed s c at ≡ marked c.plan suspended (first_mark at.holdings.point)
  listed_is = walk_is_marked c.plan (live_at s) (stack_top s) at.holdings.contents suspended at.holdings.point (first_mark at.holdings.point) (length at.store.activations)
      walked.chain refl refl many

  pub shows_each : AllZip (ShowsSuspension (shown_plan s c) at.holdings) suspended (marked c.plan suspended (first_mark at.holdings.point))
  shows_each =
      let shows = walk_lists_chain (shown_plan s c) (stack_top s) suspended at.holdings (length at.store.activations) walked.chain many in
      let lists : walk_from (shown_plan s c) at.holdings (length at.store.activations) ≡ marked c.plan suspended (first_mark at.holdings.point) =
      walk_is_marked (shown_plan s c) (live_at s) (stack_top s) at.holdings.contents suspended at.holdings.point (first_mark at.holdings.point) (length at.store.activations)
      walked.chain refl refl many ∙ marked_live c.plan (live_at s) suspended (first_mark at.holdings.point) in
      subst (λ (es : List chain.Element). AllZip (ShowsSuspension (shown_plan s c) at.holdings) suspended es) lists shows

  pub spots_each : AllSpots (marked c.plan suspended (first_mark at.holdings.point))
  spots_each = all_spots c.plan suspended (first_mark at.holdings.point) (λ r is. is)

  -- the walk of the image is that of the located machine
  pub walk_is : chain_walk i (stack_region s) t ≡ Some (walk_of s (shown s c at))
  walk_is =
      let found = all_found in
      let same = walk_same s c y i tables at.store.memory at t is_shown.holdings is_shown.words at.store.activations suspended
      (marked c.plan suspended (first_mark at.holdings.point)) (chain_of i (stack_region s) t).activations walked.ghosts shows_each found.each spots_each in
      ap (λ (o : Option Break). elim o as (λ _. Option (List walk.Activation)) [ None ↦ Some (map (element_shown t) (chain_of i (stack_region s) t).activations) | Some b ↦ None ]) found.whole
      ∙ ap (λ (w : List walk.Activation). Some w) (sym same ∙ ap (λ (es : List chain.Element). activations_shown s (map (activation_of s c at) es)) (sym listed_is))
