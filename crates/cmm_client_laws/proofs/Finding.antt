-- The tables of an image find the activations of a chain.
use Rattle.std.proofs.Common.{◌≡◌, ℕ, zero, suc, ◌+◌, ◌%◌, ◌<◌, ◌≤◌, ◌==◌, ◌&&◌, Bool, true, false, List, [], ◌∷◌, find, map, Option, Some, None, refl, sym, ap, ◌∙◌, subst, arith}
use Rattle.std.specs.Prelude.{drop, nat_le, slice_get}
use Rattle.std.proofs.lemmas.Option.{same_Some}
use Rattle.std.specs.List.{AllZip}
use Rattle.std.proofs.lemmas.Bool.{and_parts}
use Rattle.std.proofs.lemmas.Bool.Decides.{nat_tests}
use Rattle.rv_table.specs.Machine.{loaded}
use Rattle.cmm_program.specs.Memory.{Memory}
use Rattle.cmm_program.specs.State.{Setting, Activation, stack_top}
use Rattle.cmm_chain.specs.Contents.{Content, Contents}
use Rattle.cmm_chain.specs.Plans.{Plan, IsPlanned, saved_in}
use Rattle.cmm_chain.specs.Chain.{Point, Suspension, IsChain, behind, chain_size}
use Rattle.cmm_chain.specs.Walks as chain
use Rattle.cmm_chain.specs.Walks.{Mark, Spot}
use Rattle.cmm_chain.proofs.Shared.{frames_reach_top}
use Rattle.cmm_image.specs.declared.parts.ImageParts.{ImageParts}
use Rattle.cmm_image.specs.declared.rows.ProcRow.{ProcRow}
use Rattle.cmm_image.specs.declared.rows.SavedRegister.{SavedRegister}
use Rattle.cmm_image.specs.declared.rows.SiteRow.{SiteRow}
use Rattle.cmm_image.specs.ImageFormat.{procedure_at as row_at}
use Rattle.cmm_program.specs.Asking.{Chain}
use Rattle.cmm_image_machine.specs.Frames as image
use Rattle.cmm_image_machine.specs.Frames.{Element, Found, Activation as There, Nothing, activation_at, along, break_at, chain_from, found_at, is_end, is_frame, none_more, places_before, point_after, return_offset, site_at}
use Rattle.cmm_abi.specs.Regions.{Place, Region, InMemory, bottom, top}
use Rattle.cmm_image_machine.proofs.Shared.{chain_goes_on}
use Rattle.cmm_emit_laws.specs.Words.{Symbols, Represents, RepresentsWords}
use Rattle.cmm_located.specs.Compiled.{Compiled}
use Rattle.cmm_tables.specs.ProcedureRows.{saved_row}
use Rattle.cmm_client_laws.specs.Tables.{HaveTables, IsProcedureRow}
use Rattle.cmm_client_laws.specs.Walked.{AreFoundAs, IsFoundAs, IsGhostOf, back_of, mark_to, marked, place_of, shown_plan}
use Rattle.cmm_client_laws.proofs.Listing.{back_is}

-- ---- a register that was saved

abbrev saved_place : ℕ → Place → Option SavedRegister → Place
saved_place frame other o = elim o [ Some s ↦ InMemory (frame + s.offset) | None ↦ other ]

abbrev saved_spot : ℕ → Spot → Option ℕ → Spot
saved_spot at spot o = elim o [ Some offset ↦ chain.InStack (at + offset) | None ↦ spot ]

saved_found : (saved : List (ℕ × ℕ)) (n frame at : ℕ) (other : Place) (spot : Spot) → frame ≡ at → other ≡ place_of spot →
    saved_place frame other (find (λ s. s.register == n) (map saved_row saved)) ≡ place_of (saved_spot at spot (saved_in saved n))
saved_found [] n frame at other spot same is = is
saved_found ((register, offset) ∷ rest) n frame at other spot same is = by (saved_found rest n frame at other spot same is) (register == n) refl (n == register) refl
  where
    by : saved_place frame other (find (λ s. s.register == n) (map saved_row rest)) ≡ place_of (saved_spot at spot (saved_in rest n)) → (b : Bool) → (register == n) ≡ b → (d : Bool) → (n == register) ≡ d →
        saved_place frame other (find (λ s. s.register == n) (map saved_row ((register, offset) ∷ rest))) ≡ place_of (saved_spot at spot (saved_in ((register, offset) ∷ rest) n))
    by others true here true there = rw (here, saved_in, there) (ap (λ (a : ℕ). InMemory (a + offset)) same)
    by others false here false there = rw (here, saved_in, there) others
    by others true here false there = absurd (grind (arith, nat_tests, here, there))
    by others false here true there = absurd (grind (arith, nat_tests, here, there))

never_end : (b : Bool) (frame high : ℕ) → frame < high → (b && (frame == high)) ≡ false
never_end b frame high less = grind (arith, nat_tests, less)

is_last : (a last frame high : ℕ) → a ≡ last → frame ≡ high → ((a == last) && (frame == high)) ≡ true
is_last a last frame high same also = grind (arith, nat_tests, same, also)

frame_lies : (low high frame size : ℕ) → frame % 16 ≡ 0 → low ≤ frame → frame + size ≤ high → ((frame % 16 == 0) && nat_le low frame && nat_le (frame + size) high) ≡ true
frame_lies low high frame size aligned above inside = grind (arith, nat_tests, aligned, above, inside)

-- ---- frames begin at multiples of 16

size_aligned : (plan : Plan) → IsPlanned plan → (q : ℕ) → plan.is_procedure q ≡ true → (plan.frame q).size % 16 ≡ 0
size_aligned plan planned q exists =
    let both = and_parts ((plan.frame q).size % 16 == 0) _ (planned.laid q exists) in
    grind (arith, nat_tests, both.0)

begins_aligned : (plan : Plan) → IsPlanned plan → (high : ℕ) → high % 16 ≡ 0 → (contents : Contents) (suspended : List Suspension) (p : Point) → IsChain plan high contents suspended p → p.at % 16 ≡ 0
begins_aligned plan planned high aligned contents [] p is = let e = is.0 in omega (arith, e, aligned)
begins_aligned plan planned high aligned contents (t ∷ older) p is =
    let next = begins_aligned plan planned high aligned contents older (behind plan contents t.procedure p) is.1 in
    let size = size_aligned plan planned t.procedure is.0.exists in
    omega (arith, next, size)

module _ (s : Setting) (c : Compiled) (y : Symbols) (i : ImageParts) (r : Region) (tables : HaveTables s c y i) (planned : IsPlanned c.plan) (memory : Memory)
    (contents : Contents) (bytes : ℕ → ℕ) (words : RepresentsWords y r memory contents bytes) (tops : top r ≡ stack_top s) (aligned : stack_top s % 16 ≡ 0) where
  abbrev plan : Plan
  plan = shown_plan s c

  planned_too : IsPlanned (shown_plan s c)
  planned_too = record { laid = planned.laid; places = planned.places }

  ends_here : (p : image.Point) → p.address ≡ i.last → p.frame ≡ top r → chain_from i r bytes p ≡ none_more
  ends_here p address frame =
      let ends : is_end i r p ≡ true = is_last p.address i.last p.frame (top r) address frame in
      let found : found_at i r p ≡ Nothing = ap (λ (b : Bool). elim b as (λ _. Found) [
        | true ↦ Nothing
        | false ↦ elim (site_at i p.address) [ Some site ↦ activation_at r p site (row_at i.procs site.procedure) | None ↦ break_at p ]
      ]) ends in
      chain_goes_on i r bytes p tables.keep ∙ ap (along (chain_from i r bytes) bytes) found

  goes_on_here : (p : image.Point) (q : ℕ) (row : SiteRow) → site_at i p.address ≡ Some row → row.procedure ≡ q → p.frame < top r →
      is_frame r p.frame (row_at i.procs q).frame ≡ true →
      let x : Element = record { site = row; procedure = row_at i.procs q; frame = p.frame; places = p.places } in
      chain_from i r bytes p ≡ image.behind x (chain_from i r bytes (point_after bytes x))
  goes_on_here p q row at is below lies =
      let x : Element = record { site = row; procedure = row_at i.procs q; frame = p.frame; places = p.places } in
      let ends : is_end i r p ≡ false = never_end (p.address == i.last) p.frame (top r) below in
      let first : found_at i r p ≡ elim (site_at i p.address) as (λ _. Found) [ Some site ↦ activation_at r p site (row_at i.procs site.procedure) | None ↦ break_at p ] =
      ap (λ (b : Bool). elim b as (λ _. Found) [
        | true ↦ Nothing
        | false ↦ elim (site_at i p.address) [ Some site ↦ activation_at r p site (row_at i.procs site.procedure) | None ↦ break_at p ]
      ]) ends in
      let second : found_at i r p ≡ activation_at r p row (row_at i.procs row.procedure) =
      first ∙ ap (λ (o : Option SiteRow). elim o as (λ _. Found) [ Some site ↦ activation_at r p site (row_at i.procs site.procedure) | None ↦ break_at p ]) at in
      let third : found_at i r p ≡ activation_at r p row (row_at i.procs q) = second ∙ ap (λ (n : ℕ). activation_at r p row (row_at i.procs n)) is in
      let found : found_at i r p ≡ There x = third ∙ ap (λ (b : Bool). elim b as (λ _. Found) [ true ↦ There x | false ↦ break_at p ]) lies in
      chain_goes_on i r bytes p tables.keep ∙ ap (along (chain_from i r bytes) bytes) found

  -- what every frame of a chain is: it begins at a multiple of 16, and ends before the top
  frame_facts : (t : Suspension) (older : List Suspension) (p : Point) → IsChain (shown_plan s c) (stack_top s) contents (t ∷ older) p →
      (p.at % 16 ≡ 0) × (p.at + (c.plan.frame t.procedure).size ≤ stack_top s)
  frame_facts t older p is =
      let reach : p.at + chain_size (shown_plan s c) (t ∷ older) ≡ stack_top s = frames_reach_top (shown_plan s c) (stack_top s) contents (t ∷ older) p is in
      (begins_aligned (shown_plan s c) planned_too (stack_top s) aligned contents (t ∷ older) p is, omega (arith, reach))

  abbrev Finds : List Suspension → List Activation → Type 0
  Finds suspended activations = (p : Point) (mark : Mark) (ip : image.Point) → AllZip (IsGhostOf s) activations suspended →
      IsChain (shown_plan s c) (stack_top s) contents suspended p → mark.at ≡ p.at → mark.back ≡ back_of suspended → ip.frame ≡ mark.at → Represents y mark.back ip.address →
      ((n : ℕ) → ip.places n ≡ place_of (mark.registers n)) → bottom r ≤ ip.frame → AreFoundAs i y (marked c.plan suspended mark) (chain_from i r bytes ip)

  -- behind an activation that is found
  next_is_found : (t : Suspension) (older : List Suspension) (a : Activation) (activations : List Activation) (p : Point) (mark : Mark) (x : Element) → Finds older activations →
      AllZip (IsGhostOf s) (a ∷ activations) (t ∷ older) → IsChain (shown_plan s c) (stack_top s) contents (t ∷ older) p → mark.at ≡ p.at →
      x.procedure ≡ row_at i.procs t.procedure → x.frame ≡ mark.at → ((n : ℕ) → x.places n ≡ place_of (mark.registers n)) → bottom r ≤ mark.at →
      AreFoundAs i y (marked c.plan older (mark_to c.plan t.procedure (back_of older) mark)) (chain_from i r bytes (point_after bytes x))
  next_is_found t older a activations p mark x finds ghosts is at same frame places low =
      let g = ghosts.0 in
      let f = c.plan.frame t.procedure in
      let proc : IsProcedureRow g.proc f y t.procedure x.procedure =
      subst (λ (row : ProcRow). IsProcedureRow g.proc f y t.procedure row) (sym same) (tables.procedures t.procedure g.proc g.is_procedure) in
      let next : contents (mark.at + f.return_at) ≡ back_of older =
      ap (λ (n : ℕ). contents (n + f.return_at)) at ∙ back_is (shown_plan s c) (stack_top s) contents older (behind (shown_plan s c) contents t.procedure p) is.1 in
      let offset : return_offset x.procedure ≡ f.return_at = ap (λ (o : Option ℕ). elim o as (λ _. ℕ) [ Some offset ↦ offset | None ↦ 0 ]) proc.return_at in
      let word : mark.at + f.return_at ≡ x.frame + return_offset x.procedure = omega (arith, frame, offset) in
      let shown_there : Represents y (back_of older) (loaded bytes (x.frame + return_offset x.procedure) 8) =
      subst (λ (n : ℕ). Represents y (back_of older) (loaded bytes n 8)) word
      (subst (λ (b : Content). Represents y b (loaded bytes (mark.at + f.return_at) 8)) next (words.shown (mark.at + f.return_at))) in
      let size : x.procedure.frame ≡ f.size = proc.frame in
      finds (behind (shown_plan s c) contents t.procedure p) (mark_to c.plan t.procedure (back_of older) mark) (point_after bytes x)
      ghosts.1 is.1 (ap (λ (n : ℕ). n + f.size) at) refl (omega (arith, frame, size)) shown_there
      (λ n. ap (λ (saved : List SavedRegister). saved_place x.frame (x.places n) (find (λ k. k.register == n) saved)) proc.saved
      ∙ saved_found f.saved n x.frame mark.at (x.places n) (mark.registers n) frame (places n)) (omega (arith, low, frame))

  pub chain_is_found : (suspended : List Suspension) (activations : List Activation) → Finds suspended activations
  chain_is_found [] [] p mark ip ghosts is at back frame shows places low =
      let address : ip.address ≡ y.last_return = subst (λ (b : Content). Represents y b ip.address) back shows in
      let there : ip.frame ≡ top r = frame ∙ at ∙ is.0 ∙ sym tops in
      subst (λ (found : Chain Element). AreFoundAs i y [] found) (sym (ends_here ip (address ∙ sym tables.last) there)) (record { whole = refl; each = tt })
  chain_is_found (t ∷ older) (a ∷ activations) p mark ip ghosts is at back frame shows places low =
      let g = ghosts.0 in
      let site = tables.sites t.procedure t.site g.proc g.site g.is_procedure g.is_site in
      let row = site.0 in
      let address : ip.address ≡ y.return_to t.procedure t.site = subst (λ (b : Content). Represents y b ip.address) back shows in
      let there : site_at i ip.address ≡ Some row = ap (site_at i) address ∙ site.1 in
      let facts = frame_facts t older p is in
      let keeps = tables.keep ip.address row there in
      let big : 16 ≤ (row_at i.procs t.procedure).frame = subst (λ (n : ℕ). 16 ≤ (row_at i.procs n).frame) site.2.procedure keeps.size in
      let size : (row_at i.procs t.procedure).frame ≡ (c.plan.frame t.procedure).size = (tables.procedures t.procedure g.proc g.is_procedure).frame in
      let lies : is_frame r ip.frame (row_at i.procs t.procedure).frame ≡ true =
      frame_lies (bottom r) (top r) ip.frame (row_at i.procs t.procedure).frame (omega (arith, frame, at, facts.0)) low (omega (arith, frame, at, size, facts.1, tops)) in
      let x : Element = record { site = row; procedure = row_at i.procs t.procedure; frame = ip.frame; places = ip.places } in
      let rest = next_is_found t older a activations p mark x (chain_is_found older activations) ghosts is at refl frame places (omega (arith, low, frame)) in
      subst (λ (found : Chain Element). AreFoundAs i y (marked c.plan (t ∷ older) mark) found)
      (sym (goes_on_here ip t.procedure row there site.2.procedure (omega (arith, frame, at, big, size, facts.1, tops)) lies))
      (record {
        whole = rest.whole;
        each = (record { site = site.1; procedure = refl; frame = frame; places = places }, rest.each);
      })
  chain_is_found [] (a ∷ activations) p mark ip ghosts is at back frame shows places low = absurd ghosts
  chain_is_found (t ∷ older) [] p mark ip ghosts is at back frame shows places low = absurd ghosts

  -- those that are older than one that is found
  pub older_are_found : (k : ℕ) (suspended : List Suspension) (activations : List Activation) (p : Point) (mark : Mark) (e : chain.Element) (x : Element) →
      AllZip (IsGhostOf s) activations suspended → IsChain (shown_plan s c) (stack_top s) contents suspended p → mark.at ≡ p.at → bottom r ≤ mark.at →
      slice_get (marked c.plan suspended mark) k ≡ Some e → IsFoundAs i y e x → AreFoundAs i y (drop (suc k) (marked c.plan suspended mark)) (chain_from i r bytes (point_after bytes x))
  older_are_found zero (t ∷ older) (a ∷ activations) p mark e x ghosts is at low gives found =
      let first : chain.Element = record { procedure = t.procedure; site = t.site; mark = mark } in
      let same : first ≡ e = same_Some first e gives in
      let here : IsFoundAs i y first x = subst (λ (z : chain.Element). IsFoundAs i y z x) (sym same) found in
      next_is_found t older a activations p mark x (chain_is_found older activations) ghosts is at here.procedure here.frame here.places low
  older_are_found (suc k) (t ∷ older) (a ∷ activations) p mark e x ghosts is at low gives found =
      older_are_found k older activations (behind (shown_plan s c) contents t.procedure p) (mark_to c.plan t.procedure (back_of older) mark) e x ghosts.1 is.1
      (ap (λ (n : ℕ). n + (c.plan.frame t.procedure).size) at) (omega (arith, low)) gives found
  older_are_found k [] [] p mark e x ghosts is at low gives found = absurd (cc)
  older_are_found k [] (a ∷ activations) p mark e x ghosts is at low gives found = absurd ghosts
  older_are_found k (t ∷ older) [] p mark e x ghosts is at low gives found = absurd ghosts
