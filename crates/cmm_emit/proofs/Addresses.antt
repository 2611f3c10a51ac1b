-- The places of labels in finished code: in it, apart, and in their order.
use Rattle.std.proofs.Common.{◌≡◌, ◌≢◌, ◌⊎◌, inl, inr, ℕ, zero, suc, ◌+◌, ◌%◌, ◌<◌, ◌≤◌, refl, sym, ◌∙◌, ap, subst, arith, Bool, true, List, [], ◌∷◌, ◌++◌, length, append_assoc, length-append, map, drop, take, Some, slice_get}
use Rattle.std.specs.Prelude.{◌&&◌, nat_lt, slice_index}
use Rattle.std.proofs.lemmas.Bool.Decides.{nat_tests}
use Rattle.rv_asm.specs.Appending.{Codes}
use Rattle.rv_asm.specs.Finishing.{HavePlaces}
use Rattle.rv_asm.specs.Parts.{Code}
use Rattle.rv_asm.specs.Sizes.{all_shortest}
use Rattle.rv_asm.specs.declared.part.Label.{Label}
use Rattle.rv_asm.specs.declared.part.Meaning.{Meaning}
use Rattle.rv_asm.specs.declared.part.Part.{Part}
use Rattle.rv_asm.specs.declared.part.Part.TheVariants.{Single, Place, Branch, Jump, Call, Address, Table}
use Rattle.rv_table.specs.declared.instruction.Instr.{Instr}
use Rattle.cmm_unit_code.specs.Texts.{ascend_above}
use Rattle.cmm_emit.proofs.Ordering.{at_front, between, get_front}
use Rattle.cmm_emit.specs.Finishing.{places_at}
use Rattle.cmm_emit.specs.Orders.{AreInOrder, IsClosed}

-- a label has a place among parts
pub record HasPlace (l : Label) (parts : List Part) : Type 0 where
  pub index : ℕ
  pub is : slice_get parts index ≡ Some (Place l)

pub placed_by : {So : Code → ℕ → ℕ → Type 0} (l : Label) (parts : List Part) → Codes parts l So → HasPlace l parts
placed_by l parts codes = record {
  index = length codes.front;
  is = subst (λ (ps : List Part). slice_get ps (length codes.front) ≡ Some (Place l)) (sym codes.is) (at_front codes.front (Place l) (codes.parts ++ codes.back));
}

within : {A : Type 0} (xs : List A) (k : ℕ) (x : A) → slice_get xs k ≡ Some x → k < length xs
within [] k x is = absurd (cc)
within (y ∷ xs) zero x is = omega arith
within (y ∷ xs) (suc k) x is = let rest = within xs k x is in omega (arith, rest)

-- ---- places of all labels

abbrev NotPlaced : ℕ → List Part → Type 0
NotPlaced n parts = (k : ℕ) (l : Label) → slice_get parts k ≡ Some (Place l) → l.number ≡ n → ⊥

-- where a part is no place, or that of another label
after : (p : Part) (parts : List Part) (n : ℕ) → ((l : Label) → p ≡ Place l → l.number ≡ n → ⊥) → HasPlace (record { number = n }) parts ⊎ NotPlaced n parts →
    HasPlace (record { number = n }) (p ∷ parts) ⊎ NotPlaced n (p ∷ parts)
after p parts n never (inl there) = inl (record { index = suc there.index; is = there.is })
after p parts n never (inr nowhere) = inr none
  where
    none : NotPlaced n (p ∷ parts)
    none zero l is same = never l (cc) same
    none (suc k) l is same = nowhere k l is same

after_place : (l : Label) (parts : List Part) (n : ℕ) → (l.number ≡ n) ⊎ (l.number ≢ n) → HasPlace (record { number = n }) parts ⊎ NotPlaced n parts →
    HasPlace (record { number = n }) (Place l ∷ parts) ⊎ NotPlaced n (Place l ∷ parts)
after_place l parts n (inl same) rest = inl (record { index = 0; is = ap (λ (m : ℕ). Some (Place (record { number = m }))) same })
after_place l parts n (inr differ) rest = after (Place l) parts n (λ other is same. differ (let one : l ≡ other = cc in ap (λ (z : Label). z.number) one ∙ same)) rest

-- a label of a number has a place, or none has
placed_or_not : (parts : List Part) (n : ℕ) → HasPlace (record { number = n }) parts ⊎ NotPlaced n parts
placed_or_not [] n = inr (λ k l is same. cc)
placed_or_not (Place l ∷ parts) n = after_place l parts n (grind arith) (placed_or_not parts n)
placed_or_not (Single i ∷ parts) n = after (Single i) parts n (λ l is same. cc) (placed_or_not parts n)
placed_or_not (Branch c a b l ∷ parts) n = after (Branch c a b l) parts n (λ l is same. cc) (placed_or_not parts n)
placed_or_not (Jump l ∷ parts) n = after (Jump l) parts n (λ l is same. cc) (placed_or_not parts n)
placed_or_not (Call l ∷ parts) n = after (Call l) parts n (λ l is same. cc) (placed_or_not parts n)
placed_or_not (Address rd l ∷ parts) n = after (Address rd l) parts n (λ l is same. cc) (placed_or_not parts n)
placed_or_not (Table ls ∷ parts) n = after (Table ls) parts n (λ l is same. cc) (placed_or_not parts n)

-- so every place is a multiple of 4 in the code
pub place_fine : (labels : List Meaning) (parts : List Part) (size : ℕ) (places : List ℕ) → HavePlaces labels parts 0 size places → (n : ℕ) →
    (slice_index places n % 4 ≡ 0) × (slice_index places n ≤ size)
place_fine labels parts size places have n = by (placed_or_not parts n)
  where
    by : HasPlace (record { number = n }) parts ⊎ NotPlaced n parts → (slice_index places n % 4 ≡ 0) × (slice_index places n ≤ size)
    by (inl there) =
        let at = have.within there.index (record { number = n }) there.is in
        (have.aligned there.index (record { number = n }) there.is, (let most = at.1 in omega (arith, most)))
    by (inr nowhere) =
        let none = have.others n nowhere in
        (subst (λ (z : ℕ). z % 4 ≡ 0) (sym none) refl, omega (arith, none))

-- ---- in their order

module _ (labels : List Meaning) (parts : List Part) (size : ℕ) (places : List ℕ) (have : HavePlaces labels parts 0 size places) where
  -- a label before a closed front of the code stands a word before one behind it
  pub word_before : (l limit : Label) (front back : List Part) → parts ≡ front ++ Place limit ∷ back → IsClosed front → HasPlace l front →
      slice_index places l.number + 4 ≤ slice_index places limit.number
  word_before l limit front back is closed there =
      let here : slice_get parts there.index ≡ Some (Place l) = subst (λ (ps : List Part). slice_get ps there.index ≡ Some (Place l)) (sym is) (get_front front (Place limit ∷ back) (Place l) there.index there.is) in
      let at : slice_get parts (length front) ≡ Some (Place limit) = subst (λ (ps : List Part). slice_get ps (length front) ≡ Some (Place limit)) (sym is) (at_front front (Place limit) back) in
      let inside = within front there.index (Place l) there.is in
      let before = earlier closed.front closed.last there.index l (subst (λ (ps : List Part). slice_get ps there.index ≡ Some (Place l)) closed.is there.is) in
      let apart = have.apart there.index (length front) l limit (omega (arith, inside)) here at in
      let far : 4 ≤ all_shortest (drop there.index (take (length front) parts)) =
      subst (λ (ps : List Part). 4 ≤ all_shortest (drop there.index (take (length front) ps))) (sym is)
      (subst (λ (ps : List Part). 4 ≤ all_shortest (drop there.index (take (length ps) (ps ++ Place limit ∷ back)))) (sym closed.is)
      (last_word closed.front closed.last (Place limit ∷ back) there.index before))
      in
      omega (arith, apart, far)
    where
      earlier : (ps : List Part) (i : Instr) (k : ℕ) (l : Label) → slice_get (ps ++ Single i ∷ []) k ≡ Some (Place l) → k < suc (length ps)
      earlier [] i zero l e = absurd (cc)
      earlier [] i (suc k) l e = absurd (cc)
      earlier (p ∷ ps) i zero l e = omega arith
      earlier (p ∷ ps) i (suc k) l e = let rest = earlier ps i k l e in omega (arith, rest)

      last_word : (ps : List Part) (i : Instr) (more : List Part) (k : ℕ) → k < suc (length ps) →
          4 ≤ all_shortest (drop k (take (length (ps ++ Single i ∷ [])) ((ps ++ Single i ∷ []) ++ more)))
      last_word [] i more zero less = omega arith
      last_word [] i more (suc k) less = absurd (omega (arith, less))
      last_word (p ∷ ps) i more zero less = let rest = last_word ps i more zero (omega arith) in omega (arith, rest)
      last_word (p ∷ ps) i more (suc k) less = last_word ps i more k (omega (arith, less))

  -- labels that have their places in order have ascending addresses, where the code stands at an address
  pub ascending : (at : ℕ) (ls : List Label) (before rest : List Part) (a : ℕ) → parts ≡ before ++ rest → AreInOrder ls rest →
      ((k : ℕ) (l : Label) → length before ≤ k → slice_get parts k ≡ Some (Place l) → a < at + slice_index places l.number) →
      ascend_above a (map (λ offset. at + offset) (places_at places ls)) ≡ true
  ascending at [] before rest a is order above = refl
  ascending at (l ∷ ls) before rest a is order above =
      let first = order.1 in
      let front = before ++ first.front in
      let piece = Place l ∷ first.piece in
      let whole : parts ≡ front ++ (piece ++ order.0) = is ∙ ap (λ (ps : List Part). before ++ ps) first.is ∙ sym (append_assoc before first.front (piece ++ order.0)) in
      let here : slice_get parts (length front) ≡ Some (Place l) =
      subst (λ (ps : List Part). slice_get ps (length front) ≡ Some (Place l)) (sym whole) (at_front front (Place l) (first.piece ++ order.0)) in
      let reach : length before ≤ length front = omega (arith, length-append before first.front) in
      let address = at + slice_index places l.number in
      let less = above (length front) l reach here in
      let test : nat_lt a address ≡ true = grind (arith, nat_tests, less) in
      let next = ascending at ls (front ++ piece) order.0 address (whole ∙ sym (append_assoc front piece order.0)) order.2
      (λ k other far there.
      let count = length-append front piece in
      let later : length front ≤ k = omega (arith, count, far) in
      let apart = have.apart (length front) k l other later here there in
      let gap = subst (λ (ps : List Part). all_shortest piece ≤ all_shortest (drop (length front) (take k ps))) (sym whole) (between front piece order.0 k (omega (arith, count, far))) in
      let word = first.word in
      omega (arith, apart, gap, word)) in
      ap (λ (b : Bool). b && ascend_above address (map (λ offset. at + offset) (places_at places ls))) test ∙ next
