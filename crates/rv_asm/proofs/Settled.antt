-- What the walks come to: labels have the addresses of their places, by the forms that parts have with just these addresses.
use Rattle.std.proofs.Common.{◌≡◌, ◌≢◌, ℕ, zero, suc, ◌+◌, ◌%◌, ◌<◌, ◌≤◌, ◌^◌, ◌⊎◌, inl, inr, refl, sym, ◌∙◌, ap, subst, arith, List, [], ◌∷◌, length, map, take}
use Rattle.std.specs.Prelude.{slice_get, slice_index, Option, Some, None}
use Rattle.std.specs.List.{All}
use Rattle.std.proofs.lemmas.Bool.{cases_eq, cases_lt}
use Rattle.std.proofs.lemmas.List.Elements.{All-cons, All-get_or, All-nil}
use Rattle.std.proofs.lemmas.Option.{slice_get_within}
use Rattle.rv_asm.proofs.Forming.{begins_are, size_by_is}
use Rattle.rv_asm.proofs.Sizes.{begins_end, end_aligned}
use Rattle.rv_asm.proofs.Walking.{noted_here, noted_other, number_same}
use Rattle.rv_asm.specs.Reach.{begins_at, near_label, size_at}
use Rattle.rv_asm.specs.inside.Growing.{AreGrown, AreSettledAhead, AreSettledBack, AreSpots, AreSpotsBefore, ArePlacedBefore, HasPlace, HasSize, IsSettled, first_by, first_size, spot_address, start}
use Rattle.rv_asm.specs.inside.Sound.{ArePlaces, IsCodeAddress, IsSound, PlaceFits, noted}
use Rattle.rv_asm.specs.declared.part.Label.{Label}
use Rattle.rv_asm.specs.declared.part.Meaning.{Meaning}
use Rattle.rv_asm.specs.declared.part.Part.{Part}
use Rattle.rv_asm.specs.declared.part.Part.TheVariants.{Place}

-- ---- the first sizes
first_at : (labels : List Meaning) (parts : List Part) (k : ℕ) (p : Part) → slice_get parts k ≡ Some p → slice_index (map (first_size labels) parts) k ≡ first_size labels p
first_at labels [] k p is = absurd (cc)
first_at labels (q ∷ parts) zero p is = let same : q ≡ p = cc in rw same refl
first_at labels (q ∷ parts) (suc k) p is = first_at labels parts k p is

length_first : (labels : List Meaning) (parts : List Part) → length (map (first_size labels) parts) ≡ length parts
length_first labels [] = refl
length_first labels (p ∷ parts) = omega (arith, length_first labels parts)

first_has : (labels : List Meaning) (parts : List Part) (spots : List ℕ) (base : ℕ) (sizes : List ℕ) (k : ℕ) (p : Part) (near : Option (Label × ℕ)) →
    slice_index sizes k ≡ first_by p near → HasSize labels parts spots base sizes k p near
first_has labels parts spots base sizes k p None is = is
first_has labels parts spots base sizes k p (Some near) is = inl is

pub first_grown : (labels : List Meaning) (parts : List Part) (spots : List ℕ) (base : ℕ) (sizes : List ℕ) → sizes ≡ map (first_size labels) parts →
    AreGrown labels parts spots base sizes
first_grown labels parts spots base sizes is = record {
  count = rw is (length_first labels parts);
  each = λ k p at. first_has labels parts spots base sizes k p (near_label labels p) (rw is (first_at labels parts k p at));
}

-- ---- spots
last_or_below : (k i : ℕ) → k < suc i → (k < i) ⊎ (k ≡ i)
last_or_below k i h = grind arith

-- a part that is noted or not
is_place : (p : Part) (n : ℕ) → ((l : Label) × (p ≡ Place l) × (l.number ≡ n)) ⊎ ((l : Label) → p ≡ Place l → l.number ≢ n)
is_place (Place l) n = elim (cases_eq l.number n) [ inl e ↦ inl (l, refl, e) | inr other ↦ inr (λ k e f. other (number_same l k e ∙ f)) ]
is_place p n = inr (λ l e. absurd (cc))

pub spots_more : (i : ℕ) (parts : List Part) (labels : List Meaning) (p : Part) (spots : List ℕ) → slice_get parts i ≡ Some p → PlaceFits (length spots) p → IsSound parts labels →
    AreSpotsBefore i parts spots → AreSpotsBefore (suc i) parts (noted spots p (suc i))
spots_more i parts labels p spots is fits sound before = record { at = at; back = back }
  where
    at : (k : ℕ) (l : Label) → k < suc i → slice_get parts k ≡ Some (Place l) → slice_index (noted spots p (suc i)) l.number ≡ suc k
    at k l less there =
        elim (last_or_below k i less) [
          | inl h ↦
              let other : (m : Label) → p ≡ Place m → m.number ≢ l.number = λ m e f.
              let same = sound.once i k m l (is ∙ ap Some e) there f in absurd (omega (arith, same, h)) in
              noted_other spots p (suc i) l.number other ∙ before.at k l h there
          | inr e ↦
              let here : slice_get parts i ≡ Some (Place l) = subst (λ j. slice_get parts j ≡ Some (Place l)) e there in
              let place : p ≡ Place l = cc in
              noted_here spots p (suc i) l fits place ∙ ap suc (sym e)
        ]

    back : (n k : ℕ) → slice_index (noted spots p (suc i)) n ≡ suc k → (l : Label) × (slice_get parts k ≡ Some (Place l)) × (l.number ≡ n)
    back n k e =
        elim (is_place p n) [
          | inl found ↦
              let here : slice_index (noted spots p (suc i)) n ≡ suc i = rw found.2 at (noted_here spots p (suc i) found.0 fits found.1) in
              let same : i ≡ k = omega (arith, here, e) in
              (found.0, rw same at (is ∙ ap Some found.1), found.2)
          | inr other ↦ before.back n k (sym (noted_other spots p (suc i) n other) ∙ e)
        ]

pub spots_none : (parts : List Part) (spots : List ℕ) → ((n : ℕ) → slice_index spots n ≡ 0) → AreSpotsBefore 0 parts spots
spots_none parts spots zeros = record {
  at = λ k l less. absurd (omega arith);
  back = λ n k e. absurd (omega (arith, e, zeros n));
}

pub spots_all : (parts : List Part) (spots : List ℕ) (n : ℕ) → n ≡ length parts → AreSpotsBefore n parts spots → AreSpots parts spots
spots_all parts spots n all before = record {
  at = λ k l there. before.at k l (omega (arith, slice_get_within parts k (Place l) there, all)) there;
  back = before.back;
}

-- ---- places
pub placed_none : (base : ℕ) (sizes places spots : List ℕ) → ((n : ℕ) → slice_index places n ≡ 0) → ArePlacedBefore base sizes 0 places spots
placed_none base sizes places spots zeros n = by (slice_index spots n)
  where
    by : (spot : ℕ) → HasPlace base sizes 0 (slice_index places n) spot
    by zero = zeros n
    by (suc j) = λ less. absurd (omega arith)

-- before the first part, whatever the sizes
pub placed_again : (base i : ℕ) (sizes sizes' places spots : List ℕ) → ArePlacedBefore base sizes i places spots → ArePlacedBefore base sizes' 0 places spots
placed_again base i sizes sizes' places spots placed n = by (slice_index spots n) (placed n)
  where
    by : (spot : ℕ) → HasPlace base sizes i (slice_index places n) spot → HasPlace base sizes' 0 (slice_index places n) spot
    by zero has = has
    by (suc j) has = λ less. absurd (omega arith)

all_from : (P : ℕ → Type 0) (xs : List ℕ) → ((n : ℕ) → n < length xs → P (slice_index xs n)) → All P xs
all_from P [] each = All-nil P
all_from P (x ∷ xs) each = All-cons P x xs (each 0 (omega arith)) (all_from P xs (λ n less. each (suc n) (omega arith)))

module _ (labels : List Meaning) (parts : List Part) (spots : List ℕ) (base : ℕ) (sizes places : List ℕ) (grown : AreGrown labels parts spots base sizes)
    (spotted : AreSpots parts spots) (placed : ArePlacedBefore base sizes (length parts) places spots)
    (back : AreSettledBack labels parts spots base sizes (length parts)) (ahead : AreSettledAhead labels parts spots base sizes 0) where
  has_address : (n : ℕ) → slice_index places n ≡ spot_address base sizes (slice_index spots n)
  has_address n = by (slice_index spots n) refl (placed n)
    where
      by : (spot : ℕ) → slice_index spots n ≡ spot → HasPlace base sizes (length parts) (slice_index places n) spot → slice_index places n ≡ spot_address base sizes spot
      by zero e has = has
      by (suc j) e has = let found = spotted.back n j e in has (slice_get_within parts j (Place found.0) found.1)

  settled : (k : ℕ) (p : Part) → slice_get parts k ≡ Some p → (near : Label × ℕ) → near_label labels p ≡ Some near → IsSettled labels parts spots base sizes k p near
  settled k p at near is =
      elim (cases_lt k (slice_index spots near.0.number)) [
        | inl less ↦ ahead k p near (omega arith) at is less
        | inr le ↦ back k p near (slice_get_within parts k p at) at is le
      ]

  sizes_are : (k : ℕ) (p : Part) → slice_get parts k ≡ Some p → slice_index sizes k ≡ size_at labels places (base + start sizes k) p
  sizes_are k p at =
      size_by_is labels parts spots base sizes places k p (near_label labels p) (grown.each k p at)
      (λ near is. (settled k p at near is, has_address near.0.number))

  begins : (k : ℕ) → k ≤ length parts → begins_at labels places base parts k ≡ base + start sizes k
  begins k le = begins_are labels places base parts sizes grown.count sizes_are k le

  pub are_places : length places ≡ length labels → All (λ a. a ≤ 2 ^ 30) places → base % 4 ≡ 0 → ArePlaces base parts labels places
  are_places count low aligned = record {
    addresses = all_from IsCodeAddress places (λ n less. (All-get_or (λ a. a ≤ 2 ^ 30) places n 0 less low, even n));
    count = count;
    at = λ k l is.
        has_address l.number ∙ ap (spot_address base sizes) (spotted.at k l is)
        ∙ sym (begins k (omega (arith, slice_get_within parts k (Place l) is)));
    others = λ n free. others n free (slice_index spots n) refl;
  }
    where
      even : (n : ℕ) → slice_index places n % 4 ≡ 0
      even n = by (slice_index spots n) refl
        where
          by : (spot : ℕ) → slice_index spots n ≡ spot → slice_index places n % 4 ≡ 0
          by zero e = rw (has_address n, e) refl
          by (suc j) e =
              let found = spotted.back n j e in
              let b = begins j (omega (arith, slice_get_within parts j (Place found.0) found.1)) in
              let aligned_there = end_aligned labels places base (take j parts) aligned in
              let same : slice_index places n ≡ base + start sizes j = has_address n ∙ ap (spot_address base sizes) e in
              rw (same, sym b, begins_end labels places base parts j) aligned_there

      others : (n : ℕ) → ((k : ℕ) (l : Label) → slice_get parts k ≡ Some (Place l) → l.number ≢ n) → (spot : ℕ) → slice_index spots n ≡ spot → slice_index places n ≡ 0
      others n free zero e = has_address n ∙ ap (spot_address base sizes) e
      others n free (suc j) e = let found = spotted.back n j e in absurd (free j found.0 found.1 found.2)
