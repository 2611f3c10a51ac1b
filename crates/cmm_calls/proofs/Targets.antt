-- Values come to places, which are destinations.
use Rattle.std.proofs.lemmas.Bool.{and_parts}
use Rattle.std.proofs.Common.{◌≡◌, ℕ, zero, suc, ◌*◌, ◌<◌, ◌≤◌, true, List, [], ◌∷◌, length, map, refl, arith}
use Rattle.std.specs.Prelude.{slice_index_or}
use Rattle.std.specs.List.{All, list_all}
use Rattle.cmm_chain.specs.Plans.{is_place}
use Rattle.cmm_chain.specs.declared.frame.Frame.{Frame}
use Rattle.cmm_chain.specs.declared.frame.Location.{Location}
use Rattle.rv_asm.specs.declared.part.Meaning.{Meaning}
use Rattle.rv_asm.specs.declared.part.Part.{Part}
use Rattle.cmm_effects.proofs.Shared.{adds_weaker}
use Rattle.cmm_effects.specs.Pieces.{Adds}
use Rattle.cmm_select.specs.Destinations.{IsDestination}
use Rattle.cmm_select.specs.declared.destination.Destination.{Destination}
use Rattle.cmm_select.specs.declared.destination.Destination.TheVariants.{Place}
use Rattle.cmm_calls.proofs.Copied.{puts_places}
use Rattle.cmm_calls.proofs.Moved.{passes_by, passes_weaker}
use Rattle.cmm_calls.proofs.Standing.{place_is}
use Rattle.cmm_calls.specs.Copying.{IsGlobalBy, is_destination}
use Rattle.cmm_calls.specs.Frames.{CanBeMade}
use Rattle.cmm_calls.specs.Values.{TakesIn}
use Rattle.cmm_calls.specs.inside.Arriving.{CopiesAll, copy_cost, copy_least}

pub are_destinations : (f : Frame) (places : List Location) → list_all (is_place f) places ≡ true → list_all (is_destination f) (map Place places) ≡ true
are_destinations f [] all = refl
are_destinations f (p ∷ places) all =
    let parts = and_parts (is_place f p) (list_all (is_place f) places) all in
    rw (parts.0, are_destinations f places parts.1) refl

pub are_labelled : (f : Frame) (labels : List Meaning) (places : List Location) → CanBeMade f → list_all (is_place f) places ≡ true → All (IsDestination labels) (map Place places)
are_labelled f labels [] can all = λ k d within. absurd (omega (arith, within))
are_labelled f labels (p ∷ places) can all =
    λ k d within. one k d within (are_labelled f labels places can (and_parts (is_place f p) (list_all (is_place f) places) all).1)
  where
    one : (k : ℕ) (d : Destination) → k < length (map Place (p ∷ places)) → All (IsDestination labels) (map Place places) → IsDestination labels (slice_index_or (map Place (p ∷ places)) k d)
    one zero d within rest = place_is f p can (and_parts (is_place f p) (list_all (is_place f) places) all).0
    one (suc k) d within rest = rest k d (omega (arith, within))

pub no_globals : (at : ℕ → ℕ) (places : List Location) → All (IsGlobalBy at) (map Place places)
no_globals at [] = λ k d within. absurd (omega (arith, within))
no_globals at (p ∷ places) = λ k d within. at_one k d within (no_globals at places)
  where
    at_one : (k : ℕ) (d : Destination) → k < length (map Place (p ∷ places)) → All (IsGlobalBy at) (map Place places) → IsGlobalBy at (slice_index_or (map Place (p ∷ places)) k d)
    at_one zero d within rest = tt
    at_one (suc k) d within rest = rest k d (omega (arith, within))

four_each : (places : List Location) → copy_cost (map Place places) ≡ 4 * length places
four_each [] = refl
four_each (p ∷ places) = let h = four_each places in omega (arith, h)

pub takes_all : (old new : List Part) (f : Frame) (places : List Location) → Adds (copy_cost (map Place places)) old new (CopiesAll (copy_least (map Place places)) (copy_cost (map Place places)) f.size (map Place places)) →
    Adds (4 * length places) old new (TakesIn (4 * length places) f.size places)
takes_all old new f places adds =
    let most : copy_cost (map Place places) ≤ 4 * length places = let e = four_each places in omega (arith, e) in
    adds_weaker adds most
    (λ x from to copied. λ region.
    passes_weaker (passes_by (copied.all (no_globals x.at places) region)) most (λ s sound has. has) (λ s t sound has puts. puts_places region x.at 0 places s s t puts))
