-- The walk of a state depends on its stack alone, and on the registers that lead there.
use Rattle.std.proofs.Common.{◌≡◌, ℕ, zero, suc, ◌+◌, ◌<◌, ◌≤◌, ◌==◌, Bool, true, false, cond, IsTrue, IfSome, List, [], ◌∷◌, length, map, slice_index_or, Option, Some, None, refl, sym, ap, subst, ◌∙◌, arith}
use Rattle.std.specs.Prelude.{find}
use Rattle.cmm_script.specs.Walk.{Shown, Activation}
use Rattle.cmm_words.specs.Words.{low_bits}
use Rattle.rv_table.specs.Machine.{State, loaded}
use Rattle.cmm_image.specs.declared.parts.ImageParts.{ImageParts}
use Rattle.cmm_image.specs.declared.rows.SavedRegister.{SavedRegister}
use Rattle.cmm_image.specs.declared.rows.VariableRow.{VariableRow}
use Rattle.cmm_image.specs.declared.rows.VariablePlace.{VariablePlace}
use Rattle.cmm_image.specs.declared.rows.VariablePlace.TheVariants.{Dead, Slot, Register}
use Rattle.cmm_image.specs.ImageFormat.{procedure_at}
use Rattle.cmm_image.specs.InFrames.{KeepsFrame}
use Rattle.cmm_abi.specs.Registers.{is_callee_saves}
use Rattle.cmm_image.specs.Places.{IsPlace, leaves}
use Rattle.cmm_image.proofs.Shared.{sites_keep_frames}
use Rattle.std.proofs.lemmas.Bool.Decides.{nat_tests}
use Rattle.cmm_program.specs.Asking.{Break, Chain}
use Rattle.cmm_abi.specs.Regions.{Region, bottom, top, Place, InRegister, InMemory, word_at}
use Rattle.cmm_image_machine.specs.Frames as frames
use Rattle.cmm_image_machine.specs.Frames.{Element, Point, Found, Nothing, Broken, first_point, site_at, found_at, return_offset, places_before, point_after, behind, along, chain_within, points_from, chain_from, chain_of}
use Rattle.cmm_image_machine.specs.Walks.{place_in, value_at, variables_shown, element_shown, walk_along, chain_walk}
use Rattle.cmm_image_machine.specs.Laws.{KeepFrames, ImagesKeepFrames, IsInStack, FitsStack, ElementsFit, SameStack, WalkReadsTheStack}
use Rattle.cmm_image_machine.proofs.Chaining.{IsFrameAt, frame_at, lies_inside}

-- ---- every image keeps inside frames

at_cond : {X : Type 0} (P : X → Type 0) (b : Bool) (y x : X) (rest : Option X) → P y → (rest ≡ Some x → P x) → cond b (Some y) rest ≡ Some x → P x
at_cond P true y x rest here there is = let same : y ≡ x = cc in subst P same here
at_cond P false y x rest here there is = there is

-- what holds of all elements holds of one that is found
at_found : {X : Type 0} (P : X → Type 0) (p : X → Bool) (xs : List X) (x : X) → ((k : ℕ) (d : X) → k < length xs → P (slice_index_or xs k d)) →
    find p xs ≡ Some x → P x
at_found P p [] x every is = absurd cc
at_found P p (y ∷ ys) x every is =
    at_cond P (p y) y x (find p ys) (every 0 y (omega arith)) (λ rest. at_found P p ys x (λ k d short. every (suc k) d (omega arith)) rest) is

pub images_keep_frames : ImagesKeepFrames
images_keep_frames i h address site is =
    at_found (λ s. KeepsFrame (procedure_at i.procs s.procedure) s) (λ s. s.return_address == address) i.sites site (sites_keep_frames i h) is

-- ---- words

loaded_alike : (m n : ℕ → ℕ) (low high address count : ℕ) → ((at : ℕ) → low ≤ at → at < high → m at ≡ n at) → low ≤ address →
    address + count ≤ high → loaded m address count ≡ loaded n address count
loaded_alike m n low high address zero same above inside = refl
loaded_alike m n low high address (suc count) same above inside =
    let first = same address above (omega arith) in
    let rest = loaded_alike m n low high (address + 1) count same (omega arith) (omega arith) in
    rw (first, rest) refl

-- the values of callee-saves registers are where a walk may read
abbrev MayReadAll : Region → (ℕ → Place) → Type 0
MayReadAll r places = (n : ℕ) → IsTrue (is_callee_saves n) → IsInStack r (places n)

-- ---- what lies in the frame of an activation

slot_fits : (frame offset : ℕ) → IsTrue (leaves 8 frame offset) → offset + 8 ≤ frame
slot_fits frame offset h = grind (arith, nat_tests)

offset_fits : (o : Option ℕ) (frame : ℕ) → IfSome o (λ offset. offset + 8 ≤ frame) → 16 ≤ frame → elim o [ Some offset ↦ offset | None ↦ 0 ] + 8 ≤ frame
offset_fits (Some offset) frame fits size = fits
offset_fits None frame fits size = omega arith

-- 8 bytes in the frame lie in the stack
may_read : (r : Region) (p : Point) (e : Element) (offset : ℕ) → IsFrameAt r p e → offset + 8 ≤ e.procedure.frame → IsInStack r (InMemory (e.frame + offset))
may_read r p e offset at fits = (omega (arith, at.above), omega (arith, at.inside, fits))

may_read_saved : (r : Region) (p : Point) (e : Element) (n : ℕ) (o : Option SavedRegister) → IsFrameAt r p e →
    ((saved : SavedRegister) → o ≡ Some saved → saved.offset + 8 ≤ e.procedure.frame) → IsInStack r (e.places n) →
    IsInStack r (elim o [ Some saved ↦ InMemory (e.frame + saved.offset) | None ↦ e.places n ])
may_read_saved r p e n (Some saved) at fits may = may_read r p e saved.offset at (fits saved refl)
may_read_saved r p e n None at fits may = may

may_read_before : (r : Region) (p : Point) (e : Element) → IsFrameAt r p e → MayReadAll r e.places → MayReadAll r (places_before e)
may_read_before r p e at may n is =
    may_read_saved r p e n (find (λ saved. saved.register == n) e.procedure.saved) at
    (λ saved found. at_found (λ x. x.offset + 8 ≤ e.procedure.frame) (λ x. x.register == n) e.procedure.saved saved at.keeps.saved found) (may n is)

-- ---- activations fit

module _ (i : ImageParts) (r : Region) (memory : ℕ → ℕ) (keep : KeepFrames i) where
  along_fits : (n : ℕ) (p : Point) (f : Found) → found_at i r p ≡ f → MayReadAll r p.places →
      ((q : Point) → MayReadAll r q.places → (k : ℕ) (d : Element) → k < length (chain_within i r memory n q).activations →
      FitsStack r (slice_index_or (chain_within i r memory n q).activations k d)) →
      (k : ℕ) (d : Element) → k < length (along (λ q. chain_within i r memory n q) memory f).activations →
      FitsStack r (slice_index_or (along (λ q. chain_within i r memory n q) memory f).activations k d)
  along_fits n p (frames.Activation e) is may rest zero d short =
      let at = frame_at i r p e keep is in
      record { frame = at.lies; keeps = at.keeps; places = subst (MayReadAll r) (sym at.places) may }
  along_fits n p (frames.Activation e) is may rest (suc k) d short =
      let at = frame_at i r p e keep is in
      rest (point_after memory e) (may_read_before r p e at (subst (MayReadAll r) (sym at.places) may)) k d (omega arith)
  along_fits n p Nothing is may rest k d short = absurd (omega arith)
  along_fits n p (Broken b) is may rest k d short = absurd (omega arith)

  chain_fits : (n : ℕ) (p : Point) → MayReadAll r p.places → (k : ℕ) (d : Element) → k < length (chain_within i r memory n p).activations →
      FitsStack r (slice_index_or (chain_within i r memory n p).activations k d)
  chain_fits zero p may k d short = absurd (omega arith)
  chain_fits (suc n) p may k d short = along_fits n p (found_at i r p) refl may (λ q there. chain_fits n q there) k d short

-- one that fits stands at a point of its own
fitting_at : (r : Region) (e : Element) → FitsStack r e → IsFrameAt r record { address = 0; frame = e.frame; places = e.places } e
fitting_at r e fits =
    let lies = lies_inside (bottom r) (top r) e.frame e.procedure.frame fits.frame in
    record { frame = refl; places = refl; keeps = fits.keeps; lies = fits.frame; above = lies.0; inside = lies.1 }

stands_fitting : (r : Region) (e : Element) → FitsStack r e → MayReadAll r (places_before e)
stands_fitting r e fits =
    let p : Point = record { address = 0; frame = e.frame; places = e.places } in
    may_read_before r p e (fitting_at r e fits) fits.places

pub elements_fit : ElementsFit
elements_fit = record {
  all_of = λ i r s keep. chain_fits i r s.memory keep (points_from r (first_point s)) (first_point s) (λ n is. is);
  older = λ i r s e keep fits. let p = point_after s.memory e in chain_fits i r s.memory keep (points_from r p) p (stands_fitting r e fits);
}

-- ---- parts of states

-- what is shown of an activation, with its variables
shown_with : Element → List Shown → Activation
shown_with e variables = record {
  procedure = e.procedure.name;
  site = e.site.number;
  spans = map (λ span. record { token = span.token; value = span.value }) e.site.spans;
  variables = variables;
}

point_same : (a b f g : ℕ) (places : ℕ → Place) → a ≡ b → f ≡ g →
    ◌≡◌ {A = Point} (record { address = a; frame = f; places = places }) (record { address = b; frame = g; places = places })
point_same a b f g places same also = rw (same, also) refl

along_alike : (m n : ℕ → ℕ) (f : Found) (on also : Point → Chain Element) →
    ((e : Element) → f ≡ frames.Activation e → on (point_after m e) ≡ also (point_after n e)) → along on m f ≡ along also n f
along_alike m n (frames.Activation e) on also same = ap (behind e) (same e refl)
along_alike m n Nothing on also same = refl
along_alike m n (Broken b) on also same = refl

unless_broken : (o : Option Break) (xs ys : List Activation) → xs ≡ ys →
    ◌≡◌ {A = Option (List Activation)} (elim o [ None ↦ Some xs | Some b ↦ None ]) (elim o [ None ↦ Some ys | Some b ↦ None ])
unless_broken None xs ys same = ap Some same
unless_broken (Some b) xs ys same = refl

module _ (i : ImageParts) (r : Region) (s t : State) (keep : KeepFrames i) (same : SameStack r s t) where
  word_alike : (place : Place) → IsInStack r place → word_at s place ≡ word_at t place
  word_alike (InRegister n) may = same.saved n may
  word_alike (InMemory address) may = loaded_alike s.memory t.memory (bottom r) (top r) address 8 same.bytes may.0 may.1

  -- ---- variables

  value_alike : (p : Point) (e : Element) (v : VariableRow) (place : VariablePlace) → IsFrameAt r p e → MayReadAll r e.places →
      IsPlace e.procedure.frame place → value_at s v.width (place_in e place) ≡ value_at t v.width (place_in e place)
  value_alike p e v Dead at may is = refl
  value_alike p e v (Slot offset) at may is =
      ap (λ word. Some (low_bits v.width word)) (word_alike (InMemory (e.frame + offset)) (may_read r p e offset at (slot_fits e.procedure.frame offset is.1)))
  value_alike p e v (Register n) at may is = ap (λ word. Some (low_bits v.width word)) (word_alike (e.places n) (may n is))

  variables_alike : (p : Point) (e : Element) → IsFrameAt r p e → MayReadAll r e.places → (vs : List VariableRow) (ps : List VariablePlace) →
      ((k : ℕ) (d : VariablePlace) → k < length ps → IsPlace e.procedure.frame (slice_index_or ps k d)) → variables_shown s e vs ps ≡ variables_shown t e vs ps
  variables_alike p e at may [] ps every = refl
  variables_alike p e at may (v ∷ vs) [] every = refl
  variables_alike p e at may (v ∷ vs) (q ∷ qs) every =
      let first = value_alike p e v q at may (every 0 Dead (omega arith)) in
      let rest = variables_alike p e at may vs qs (λ k d short. every (suc k) d (omega arith)) in
      rw (first, rest) refl

  shown_alike : (p : Point) (e : Element) → IsFrameAt r p e → MayReadAll r e.places → element_shown s e ≡ element_shown t e
  unfolding shown_with
  shown_alike p e at may = ap (shown_with e) (variables_alike p e at may e.procedure.variables e.site.variables at.keeps.places)

  -- ---- chains

  point_alike : (p : Point) (e : Element) → IsFrameAt r p e → point_after s.memory e ≡ point_after t.memory e
  point_alike p e at =
      let may = may_read r p e (return_offset e.procedure) at (offset_fits e.procedure.return_at e.procedure.frame at.keeps.returns at.keeps.size) in
      point_same _ _ _ _ (places_before e)
      (loaded_alike s.memory t.memory (bottom r) (top r) (e.frame + return_offset e.procedure) 8 same.bytes may.0 may.1) refl

  chain_alike : (n : ℕ) (p : Point) → chain_within i r s.memory n p ≡ chain_within i r t.memory n p
  chain_alike zero p = refl
  chain_alike (suc n) p =
      along_alike s.memory t.memory (found_at i r p) (λ q. chain_within i r s.memory n q) (λ q. chain_within i r t.memory n q)
      (λ e is. ap (λ q. chain_within i r s.memory n q) (point_alike p e (frame_at i r p e keep is)) ∙ chain_alike n (point_after t.memory e))

  abbrev Alike : Chain Element → Type 0
  Alike chain = map (element_shown s) chain.activations ≡ map (element_shown t) chain.activations

  along_shown : (n : ℕ) (p : Point) (f : Found) → found_at i r p ≡ f → MayReadAll r p.places →
      ((q : Point) → MayReadAll r q.places → Alike (chain_within i r t.memory n q)) → Alike (along (λ q. chain_within i r t.memory n q) t.memory f)
  along_shown n p (frames.Activation e) is may rest =
      let at = frame_at i r p e keep is in
      let here : MayReadAll r e.places = subst (MayReadAll r) (sym at.places) may in
      let first = shown_alike p e at here in
      let later = rest (point_after t.memory e) (may_read_before r p e at here) in
      rw (first, later) refl
  along_shown n p Nothing is may rest = refl
  along_shown n p (Broken b) is may rest = refl

  chain_shown : (n : ℕ) (p : Point) → MayReadAll r p.places → Alike (chain_within i r t.memory n p)
  chain_shown zero p may = refl
  chain_shown (suc n) p may = along_shown n p (found_at i r p) refl may (λ q there. chain_shown n q there)

  walks_alike : chain_walk i r s ≡ chain_walk i r t
  walks_alike =
      let first : first_point s ≡ first_point t = point_same _ _ _ _ InRegister same.address same.frame in
      let points = points_from r (first_point t) in
      let chains : chain_of i r s ≡ chain_of i r t = ap (chain_from i r s.memory) first ∙ chain_alike points (first_point t) in
      ap (walk_along s) chains ∙ unless_broken (chain_of i r t).broken _ _ (chain_shown points (first_point t) (λ n is. is))

pub walk_reads_the_stack : WalkReadsTheStack
walk_reads_the_stack i r s t keep same = walks_alike i r s t keep same
