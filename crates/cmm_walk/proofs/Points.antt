-- What stands at a point, as it is looked for.
use Rattle.std.proofs.Common.{◌≡◌, ℕ, suc, ◌+◌, ◌<◌, ◌≤◌, ◌==◌, ◌&&◌, ◌%◌, nat_le, nat_lt, Bool, true, false, cond, IsTrue, IfSome, List, [], ◌∷◌, length, find, slice_get, slice_index_or, Option, Some, None, refl, sym, ap, subst, ◌∙◌, arith}
use Rattle.std.specs.List.{position_or_len}
use Rattle.std.specs.Option.{option_and_then}
use Rattle.std.proofs.lemmas.Bool.Decides.{nat_tests}
use Rattle.cmm_image.specs.declared.parts.ImageParts.{ImageParts}
use Rattle.cmm_image.specs.declared.rows.SiteRow.{SiteRow}
use Rattle.cmm_image.specs.ImageFormat.{procedure_at}
use Rattle.cmm_image.specs.Images.{IsImage}
use Rattle.cmm_image.specs.declared.rows.SavedRegister.{SavedRegister}
use Rattle.cmm_abi.specs.Registers.{is_callee_saves}
use Rattle.cmm_image.specs.Sites.{returns_to, site_place}
use Rattle.cmm_image_machine.specs.Frames.{Point, Activation, Nothing, activation_at, break_at, found_at, is_end, is_frame, places_before, site_at}
use Rattle.cmm_image_machine.specs.Laws.{FitsStack, IsInStack}
use Rattle.cmm_abi.specs.Regions.{Region, Place, bottom, top, InMemory}
use Rattle.cmm_walk.specs.declared.activation.Kept.{Kept}
use Rattle.cmm_image_machine.proofs.Shared.{sites_are_found}
use Rattle.cmm_walk.specs.declared.activation.Activation.{Activation as ActivationOf}
use Rattle.cmm_walk.specs.Activations.{Fits, SavedFit, element_of, places_of}
use Rattle.cmm_image.specs.Sites.{site_numbered}
use Rattle.cmm_walk.proofs.Tables.{activation_keeps, site_is}

-- ---- by what the tests say

pub end_there : (i : ImageParts) (r : Region) (p : Point) → is_end i r p ≡ true → found_at i r p ≡ Nothing
end_there i r p is = rw (found_at, is) refl

pub none_there : (i : ImageParts) (r : Region) (p : Point) → is_end i r p ≡ false → site_place i.sites p.address ≡ None → found_at i r p ≡ break_at p
none_there i r p is none =
    let no_site : site_at i p.address ≡ None = sites_are_found i p.address ∙ ap (option_and_then (slice_get i.sites)) none in
    rw (found_at, is, no_site) refl

module _ (i : ImageParts) (r : Region) (p : Point) (n : ℕ) (ends : is_end i r p ≡ false) (found : site_place i.sites p.address ≡ Some n) (short : n < length i.sites) where
  site_there : site_at i p.address ≡ Some (site_numbered i.sites n)
  site_there = sites_are_found i p.address ∙ ap (option_and_then (slice_get i.sites)) found ∙ site_is i n short

  pub fits_there : is_frame r p.frame (procedure_at i.procs (site_numbered i.sites n).procedure).frame ≡ true →
      found_at i r p ≡ Activation record { site = site_numbered i.sites n; procedure = procedure_at i.procs (site_numbered i.sites n).procedure; frame = p.frame; places = p.places }
  fits_there fits = rw (found_at, ends, site_there, activation_at, fits) refl

  pub unfit_there : is_frame r p.frame (procedure_at i.procs (site_numbered i.sites n).procedure).frame ≡ false → found_at i r p ≡ break_at p
  unfit_there fits = rw (found_at, ends, site_there, activation_at, fits) refl

-- ---- what fits

pub lies_inside : (low high frame size : ℕ) → ((frame % 16 == 0) && nat_le low frame && nat_le (frame + size) high) ≡ true → (low ≤ frame) × (frame + size ≤ high)
lies_inside low high frame size h = grind (arith, nat_tests)

-- where the frame of one that fits lies
pub frame_lies : (i : ImageParts) (r : Region) (a : ActivationOf) → Fits i r a → (bottom r ≤ a.frame) × (a.frame + (procedure_at i.procs a.proc).frame ≤ top r)
frame_lies i r a fits = lies_inside (bottom r) (top r) a.frame (procedure_at i.procs a.proc).frame fits.frame

-- what fits an image and a stack fits the stack
pub fits_stack : (i : ImageParts) (r : Region) (a : ActivationOf) → IsImage i → Fits i r a → FitsStack r (element_of i a)
fits_stack i r a h fits = record { frame = fits.frame; keeps = activation_keeps i h a fits.there; places = fits.places }

-- ---- as it is tested

pub tested_end : (i : ImageParts) (r : Region) (p : Point) (last end : ℕ) (test : Bool) → last ≡ i.last → end ≡ top r → test ≡ (p.address == last) && (p.frame == end) → is_end i r p ≡ test
tested_end i r p last end test is end_is tested = rw (tested, is, end_is) refl

-- the place of a site is that of one that is there
pub place_short : (sites : List SiteRow) (address n : ℕ) → site_place sites address ≡ Some n → n < length sites
place_short sites address n is = let k = position_or_len (returns_to address) sites in by k (nat_lt k (length sites)) refl is
  where
    by : (k : ℕ) (b : Bool) → nat_lt k (length sites) ≡ b → ◌≡◌ {A = Option ℕ} (cond b (Some k) None) (Some n) → n < length sites
    by k true short there = let same : k ≡ n = cc in let below : k < length sites = grind (arith, nat_tests) in subst (λ (m : ℕ). m < length sites) same below
    by k false short there = absurd cc

-- ---- behind an activation

pub points_same : (a b f g : ℕ) (p q : ℕ → Place) → a ≡ b → f ≡ g → p ≡ q →
    ◌≡◌ {A = Point} (record { address = a; frame = f; places = p }) (record { address = b; frame = g; places = q })
points_same a b f g p q first second third = λ i. record { address = first i; frame = second i; places = third i }

pub offset_fits : (o : Option ℕ) (frame : ℕ) → IfSome o (λ offset. offset + 8 ≤ frame) → 16 ≤ frame → elim o [ Some offset ↦ offset | None ↦ 0 ] + 8 ≤ frame
offset_fits (Some offset) frame fits size = fits
offset_fits None frame fits size = omega arith

-- what all rows keep, one that is found keeps
found_keeps : (frame n : ℕ) (xs : List SavedRegister) (x : SavedRegister) → ((k : ℕ) (d : SavedRegister) → k < length xs → (slice_index_or xs k d).offset + 8 ≤ frame) →
    find (λ s. s.register == n) xs ≡ Some x → x.offset + 8 ≤ frame
found_keeps frame n [] x every is = absurd cc
found_keeps frame n (y ∷ ys) x every is =
    by (y.register == n) (every 0 y (omega arith)) (λ rest. found_keeps frame n ys x (λ k d short. every (suc k) d (omega arith)) rest) is
  where
    by : (b : Bool) → y.offset + 8 ≤ frame → (find (λ s. s.register == n) ys ≡ Some x → x.offset + 8 ≤ frame) →
        ◌≡◌ {A = Option SavedRegister} (cond b (Some y) (find (λ s. s.register == n) ys)) (Some x) → x.offset + 8 ≤ frame
    by true here later there = let same : y ≡ x = cc in subst (λ (s : SavedRegister). s.offset + 8 ≤ frame) same here
    by false here later there = later there

module _ (i : ImageParts) (r : Region) (a : ActivationOf) (h : IsImage i) (fits : Fits i r a) where
  before_fits : (n : ℕ) → IsTrue (is_callee_saves n) → (o : Option SavedRegister) → find (λ s. s.register == n) (procedure_at i.procs a.proc).saved ≡ o →
      IsInStack r (elim o [ Some s ↦ InMemory (a.frame + s.offset) | None ↦ places_of a.saved n ])
  before_fits n is (Some s) found =
      let keeps = activation_keeps i h a fits.there in
      let inside = found_keeps (procedure_at i.procs a.proc).frame n (procedure_at i.procs a.proc).saved s (λ k d short. keeps.saved k d short) found in
      let lies = frame_lies i r a fits in
      let low = lies.0 in
      let high = lies.1 in
      (omega (arith, low), omega (arith, inside, high))
  before_fits n is None found = fits.places n is

  -- so the places behind it fit too
  pub behind_fits : (saved : List Kept) → places_of saved ≡ places_before (element_of i a) → SavedFit r saved
  behind_fits saved same n is = subst (IsInStack r) (sym (ap (λ (f : ℕ → Place). f n) same)) (before_fits n is (find (λ s. s.register == n) (procedure_at i.procs a.proc).saved) refl)
