-- Where labels are in finished code.
use Rattle.std.proofs.Common.{◌≡◌, ℕ, zero, suc, ◌+◌, ◌%◌, ◌≤◌, refl, sym, ◌∙◌, ap, arith, List, [], ◌∷◌, length, take, drop, take_all}
use Rattle.std.specs.Prelude.{slice_index}
use Rattle.std.proofs.Math.ListN.{replicate}
use Rattle.std.proofs.lemmas.List.{take-append-drop}
use Rattle.rv_asm.proofs.Sizes.{begins_end, end-append, end_aligned, end_least, size_least}
use Rattle.rv_asm.specs.Finishing.{HavePlaces}
use Rattle.rv_asm.specs.Reach.{HasForms, end_at, is_short, size_at}
use Rattle.rv_asm.specs.Sizes.{all_shortest}
use Rattle.rv_asm.specs.inside.Sound.{ArePlaces}
use Rattle.rv_asm.specs.declared.part.Meaning.{Meaning}
use Rattle.rv_asm.specs.declared.part.Part.{Part}

-- ---- labels that no part places
pub all_zeros : (count n : ℕ) → slice_index (replicate count 0) n ≡ 0
all_zeros zero zero = refl
all_zeros zero (suc n) = refl
all_zeros (suc count) zero = refl
all_zeros (suc count) (suc n) = all_zeros count n

-- ---- how far places are apart
take_take : (j k : ℕ) (ps : List Part) → j ≤ k → take j (take k ps) ≡ take j ps
take_take zero zero [] le = refl
take_take zero zero (p ∷ ps) le = refl
take_take zero (suc k) [] le = refl
take_take zero (suc k) (p ∷ ps) le = refl
take_take (suc j) zero ps le = absurd (omega arith)
take_take (suc j) (suc k) [] le = refl
take_take (suc j) (suc k) (p ∷ ps) le = ap (λ qs. p ∷ qs) (take_take j k ps (omega arith))

module _ (labels : List Meaning) (places : List ℕ) where
  shortest_most : (from : ℕ) (ps : List Part) → from + all_shortest ps ≤ end_at labels places from ps
  shortest_most from [] = omega arith
  shortest_most from (p ∷ ps) =
      omega (arith, shortest_most (from + size_at labels places from p) ps, size_least (is_short labels places from p) p)

  between : (base j k : ℕ) (ps : List Part) → j ≤ k →
      end_at labels places base (take k ps) ≡ end_at labels places (end_at labels places base (take j ps)) (drop j (take k ps))
  between base j k ps le =
      sym (ap (end_at labels places base) (take-append-drop j (take k ps))) ∙ end-append labels places base (take j (take k ps)) (drop j (take k ps))
      ∙ ap (λ qs. end_at labels places (end_at labels places base qs) (drop j (take k ps))) (take_take j k ps le)

  within_end : (base k : ℕ) (ps : List Part) → end_at labels places base (take k ps) ≤ end_at labels places base ps
  within_end base k ps =
      let e = ap (end_at labels places base) (take-append-drop k ps) in
      let f = end-append labels places base (take k ps) (drop k ps) in
      omega (arith, e, f, end_least labels places (end_at labels places base (take k ps)) (drop k ps))

pub have_places : (labels : List Meaning) (parts : List Part) (base : ℕ) (places : List ℕ) (size : ℕ) → base % 4 ≡ 0 →
    base + size ≡ end_at labels places base parts → ArePlaces base parts labels places → HavePlaces labels parts base size places
have_places labels parts base places size even is placed = record {
  count = placed.count;
  within = λ k l at.
      let here = placed.at k l at ∙ begins_end labels places base parts k in
      (omega (arith, here, end_least labels places base (take k parts)), omega (arith, here, is, within_end labels places base k parts));
  aligned = λ k l at. rw (placed.at k l at, begins_end labels places base parts k) (end_aligned labels places base (take k parts) even);
  apart = λ j k a b le first second.
      let here = placed.at j a first ∙ begins_end labels places base parts j in
      let there = placed.at k b second ∙ begins_end labels places base parts k in
      omega (arith, here, there, between labels places base j k parts le, shortest_most labels places (end_at labels places base (take j parts)) (drop j (take k parts)));
  others = placed.others;
}

pub have_forms : (labels : List Meaning) (parts : List Part) (base : ℕ) (places : List ℕ) (size : ℕ) →
    base + size ≡ end_at labels places base parts → ArePlaces base parts labels places → HasForms labels parts base size places
have_forms labels parts base places size is placed = record {
  placed = placed.at;
  whole = is ∙ sym (begins_end labels places base parts (length parts) ∙ ap (end_at labels places base) (take_all (length parts) parts (omega arith)));
}
