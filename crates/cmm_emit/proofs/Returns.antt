-- The places of labels that stand behind instructions: apart, and with room behind them.
use Rattle.std.proofs.Common.{◌≡◌, ◌⊎◌, inl, inr, ℕ, zero, suc, ◌+◌, ◌*◌, ◌<◌, ◌≤◌, sym, ◌∙◌, ap, subst, arith, List, [], ◌∷◌, ◌++◌, length, append_assoc, length-append, drop, take, Some, slice_get}
use Rattle.std.specs.Prelude.{slice_index}
use Rattle.rv_asm.specs.Finishing.{HavePlaces}
use Rattle.rv_asm.specs.Sizes.{all_shortest, shortest}
use Rattle.rv_asm.specs.declared.part.Label.{Label}
use Rattle.rv_asm.specs.declared.part.Meaning.{Meaning}
use Rattle.rv_asm.specs.declared.part.Part.{Part}
use Rattle.rv_asm.specs.declared.part.Part.TheVariants.{Place}
use Rattle.rv_asm.specs.Appending.{IsBehind}
use Rattle.cmm_emit.proofs.Ordering.{at_front, between}

-- the parts up to an index have the last of them, at least
last_part : (xs : List Part) (i j : ℕ) (p : Part) → slice_get xs j ≡ Some p → i ≤ j → shortest p ≤ all_shortest (drop i (take (suc j) xs))
last_part [] i j p is less = absurd (cc)
last_part (x ∷ xs) zero zero p is less = let same : x ≡ p = cc in let size = ap shortest same in omega (arith, size)
last_part (x ∷ xs) zero (suc j) p is less = let rest = last_part xs zero j p is (omega arith) in omega (arith, rest)
last_part (x ∷ xs) (suc i) zero p is less = absurd (omega (arith, less))
last_part (x ∷ xs) (suc i) (suc j) p is less = last_part xs i j p is (omega (arith, less))

-- where the label is, and the part before it
label_at_index : {l : Label} {w : ℕ} {parts : List Part} → (is : IsBehind l w parts) → slice_get parts (suc (length is.front)) ≡ Some (Place l)
label_at_index {l} {w} {parts} is =
    let front = is.front ++ is.part ∷ [] in
    let split : parts ≡ front ++ (Place l ∷ is.back) = is.is ∙ sym (append_assoc is.front (is.part ∷ []) (Place l ∷ is.back)) in
    let count : length front ≡ suc (length is.front) = omega (arith, length-append is.front (is.part ∷ [])) in
    subst (λ (n : ℕ). slice_get parts n ≡ Some (Place l)) count
    (subst (λ (ps : List Part). slice_get ps (length front) ≡ Some (Place l)) (sym split) (at_front front (Place l) is.back))

part_at_index : {l : Label} {w : ℕ} {parts : List Part} → (is : IsBehind l w parts) → slice_get parts (length is.front) ≡ Some is.part
part_at_index {l} {w} {parts} is =
    subst (λ (ps : List Part). slice_get ps (length is.front) ≡ Some is.part) (sym is.is) (at_front is.front is.part (Place l ∷ is.back))

module _ (labels : List Meaning) (parts : List Part) (size : ℕ) (places : List ℕ) (have : HavePlaces labels parts 0 size places) where
  -- one before another
  later : (l r : Label) (v w : ℕ) (a : IsBehind l v parts) (b : IsBehind r w parts) → length a.front < length b.front →
      slice_index places l.number + 4 ≤ slice_index places r.number
  later l r v w a b less =
      let i = suc (length a.front) in
      let j = length b.front in
      let apart = have.apart i (suc j) l r (omega (arith, less)) (label_at_index a) (label_at_index b) in
      let word = last_part parts i j b.part (part_at_index b) (omega (arith, less)) in
      let long = b.long in
      omega (arith, apart, word, long)

  -- two that have one place are one
  pub one_place : (l r : Label) (v w : ℕ) → IsBehind l v parts → IsBehind r w parts → slice_index places l.number ≡ slice_index places r.number → l ≡ r
  one_place l r v w a b same = by (grind arith)
    where
      by : (length a.front < length b.front) ⊎ ((length b.front < length a.front) ⊎ (length a.front ≡ length b.front)) → l ≡ r
      by (inl less) = absurd (let far = later l r v w a b less in omega (arith, far, same))
      by (inr (inl more)) = absurd (let far = later r l w v b a more in omega (arith, far, same))
      by (inr (inr at)) =
          let one : slice_get parts (suc (length b.front)) ≡ Some (Place l) = ap (λ (n : ℕ). slice_get parts (suc n)) (sym at) ∙ label_at_index a in
          let two : slice_get parts (suc (length b.front)) ≡ Some (Place r) = label_at_index b in
          some_place (sym one ∙ two)
        where
          some_place : Some (Place l) ≡ Some (Place r) → l ≡ r
          some_place e = cc

  -- before a later label there is room
  pub room_before : (l limit : Label) (w : ℕ) (front back : List Part) → parts ≡ front ++ Place limit ∷ back → IsBehind l w front →
      slice_index places l.number + 4 * w ≤ slice_index places limit.number
  room_before l limit w front back is behind =
      let first = behind.front ++ behind.part ∷ [] in
      let piece = Place l ∷ behind.back in
      let split : front ≡ first ++ piece = behind.is ∙ sym (append_assoc behind.front (behind.part ∷ []) piece) in
      let whole : parts ≡ first ++ (piece ++ Place limit ∷ back) = is ∙ (ap (λ (ps : List Part). ps ++ Place limit ∷ back) split ∙ append_assoc first piece (Place limit ∷ back)) in
      let here : slice_get parts (length first) ≡ Some (Place l) =
      subst (λ (ps : List Part). slice_get ps (length first) ≡ Some (Place l)) (sym whole) (at_front first (Place l) (behind.back ++ Place limit ∷ back)) in
      let there : slice_get parts (length front) ≡ Some (Place limit) =
      subst (λ (ps : List Part). slice_get ps (length front) ≡ Some (Place limit)) (sym is) (at_front front (Place limit) back) in
      let count : length front ≡ length first + length piece = ap (λ (ps : List Part). length ps) split ∙ length-append first piece in
      let apart = have.apart (length first) (length front) l limit (omega (arith, count)) here there in
      let gap : all_shortest piece ≤ all_shortest (drop (length first) (take (length front) parts)) =
      subst (λ (ps : List Part). all_shortest piece ≤ all_shortest (drop (length first) (take (length front) ps))) (sym whole)
      (between first piece (Place limit ∷ back) (length front) (omega (arith, count))) in
      let room = behind.room in
      omega (arith, apart, gap, room)
