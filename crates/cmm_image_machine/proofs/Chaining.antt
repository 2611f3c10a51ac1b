-- A chain is told by what stands at its first point.
use Rattle.std.proofs.Common.{◌≡◌, ℕ, zero, suc, ◌+◌, ◌-◌, ◌/◌, ◌%◌, ◌≤◌, ◌==◌, ◌&&◌, nat_le, Bool, true, false, Option, Some, None, refl, ap, subst, arith}
use Rattle.std.proofs.lemmas.Bool.Decides.{nat_tests}
use Rattle.cmm_image.specs.declared.parts.ImageParts.{ImageParts}
use Rattle.cmm_image.specs.declared.rows.SiteRow.{SiteRow}
use Rattle.cmm_image.specs.ImageFormat.{procedure_at}
use Rattle.cmm_image.specs.InFrames.{KeepsFrame}
use Rattle.cmm_program.specs.Asking.{Chain}
use Rattle.cmm_abi.specs.Regions.{Region, bottom, top}
use Rattle.cmm_image_machine.specs.Frames.{Element, Point, Found, Activation, Nothing, Broken, is_end, is_frame, site_at, break_at, activation_at, found_at, point_after, behind, along, chain_within, points_from, chain_from}
use Rattle.cmm_image_machine.specs.Laws.{KeepFrames, ChainGoesOn}

-- ---- what is known of an activation that stands at a point

-- its frame and its places are the point's, and the frame lies in the stack
pub record IsFrameAt (r : Region) (p : Point) (e : Element) : Type 0 where
  pub frame : e.frame ≡ p.frame
  pub places : e.places ≡ p.places
  pub keeps : KeepsFrame e.procedure e.site
  pub lies : is_frame r e.frame e.procedure.frame ≡ true
  pub above : bottom r ≤ e.frame
  pub inside : e.frame + e.procedure.frame ≤ top r

goes_on : (ends : Bool) (f : Found) (e : Element) → ◌≡◌ {A = Found} (elim ends [ true ↦ Nothing | false ↦ f ]) (Activation e) → f ≡ Activation e
goes_on true f e is = absurd cc
goes_on false f e is = is

has_site : (p : Point) (o : Option SiteRow) (f : SiteRow → Found) (e : Element) →
    ◌≡◌ {A = Found} (elim o [ Some site ↦ f site | None ↦ break_at p ]) (Activation e) → (site : SiteRow) × (o ≡ Some site) × (f site ≡ Activation e)
has_site p (Some site) f e is = (site, refl, is)
has_site p None f e is = absurd cc

fits : (p : Point) (b : Bool) (made e : Element) → ◌≡◌ {A = Found} (elim b [ true ↦ Activation made | false ↦ break_at p ]) (Activation e) →
    (b ≡ true) × (made ≡ e)
fits p true made e is = (refl, cc)
fits p false made e is = absurd cc

pub lies_inside : (low high frame size : ℕ) → ((frame % 16 == 0) && nat_le low frame && nat_le (frame + size) high) ≡ true →
    (low ≤ frame) × (frame + size ≤ high)
lies_inside low high frame size h = grind (arith, nat_tests)

framed : (r : Region) (p : Point) (made e : Element) → made.frame ≡ p.frame → made.places ≡ p.places → KeepsFrame made.procedure made.site →
    is_frame r p.frame made.procedure.frame ≡ true → made ≡ e → IsFrameAt r p e
framed r p made e at places keeps inside is =
    let lies = lies_inside (bottom r) (top r) p.frame made.procedure.frame inside in
    subst (IsFrameAt r p) is record { frame = at; places = places; keeps = keeps; lies = rw at inside; above = rw at lies.0; inside = rw at lies.1 }

pub frame_at : (i : ImageParts) (r : Region) (p : Point) (e : Element) → KeepFrames i → found_at i r p ≡ Activation e → IsFrameAt r p e
frame_at i r p e frames is =
    let there = has_site p (site_at i p.address) (λ site. activation_at r p site (procedure_at i.procs site.procedure)) e (goes_on (is_end i r p) _ e is) in
    let made : Element = record { site = there.0; procedure = procedure_at i.procs there.0.procedure; frame = p.frame; places = p.places } in
    let both = fits p (is_frame r p.frame made.procedure.frame) made e there.2 in
    framed r p made e refl refl (frames p.address there.0 there.1) both.0 both.1

-- ---- points enough

-- behind a frame of 16 bytes there is room for one point less
less_room : (high frame size points : ℕ) → 16 ≤ size → frame + size ≤ high → suc ((high - frame) / 16) ≤ suc points → suc ((high - (frame + size)) / 16) ≤ points
less_room high frame size points big inside enough = omega arith

along_same : (memory : ℕ → ℕ) (f : Found) (on also : Point → Chain Element) →
    ((e : Element) → f ≡ Activation e → on (point_after memory e) ≡ also (point_after memory e)) → along on memory f ≡ along also memory f
along_same memory (Activation e) on also same = ap (behind e) (same e refl)
along_same memory Nothing on also same = refl
along_same memory (Broken b) on also same = refl

module _ (i : ImageParts) (r : Region) (memory : ℕ → ℕ) (frames : KeepFrames i) where
  room_behind : (points : ℕ) (p : Point) (e : Element) → found_at i r p ≡ Activation e → points_from r p ≤ suc points →
      points_from r (point_after memory e) ≤ points
  room_behind points p e is enough = let at = frame_at i r p e frames is in
      less_room (top r) e.frame e.procedure.frame points at.keeps.size at.inside (rw at.frame enough)

  -- once there are enough, more points make no difference
  same_chain : (a b : ℕ) (p : Point) → points_from r p ≤ a → points_from r p ≤ b → chain_within i r memory a p ≡ chain_within i r memory b p
  same_chain zero b p enough also = absurd (omega arith)
  same_chain (suc a) zero p enough also = absurd (omega arith)
  same_chain (suc a) (suc b) p enough also =
      along_same memory (found_at i r p) (λ q. chain_within i r memory a q) (λ q. chain_within i r memory b q)
      (λ e is. same_chain a b (point_after memory e) (room_behind a p e is enough) (room_behind b p e is also))

  goes_along : (p : Point) → chain_from i r memory p ≡ along (chain_from i r memory) memory (found_at i r p)
  goes_along p = let points = (top r - p.frame) / 16 in
      along_same memory (found_at i r p) (λ q. chain_within i r memory points q) (chain_from i r memory)
      (λ e is. let q = point_after memory e in same_chain points (points_from r q) q (room_behind points p e is (omega arith)) (omega arith))

pub chain_goes_on : ChainGoesOn
chain_goes_on i r memory p frames = goes_along i r memory frames p
