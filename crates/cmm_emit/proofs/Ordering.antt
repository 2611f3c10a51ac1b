-- Labels that have their places one after the other.
use Rattle.std.proofs.Common.{◌≡◌, ℕ, zero, suc, ◌+◌, ◌≤◌, refl, ◌∙◌, ap, arith, List, [], ◌∷◌, ◌++◌, length, append_assoc, append-nil, take, drop, Some, slice_get}
use Rattle.rv_asm.specs.Sizes.{all_shortest}
use Rattle.rv_asm.specs.declared.part.Label.{Label}
use Rattle.rv_asm.specs.declared.part.Part.{Part}
use Rattle.rv_asm.specs.declared.part.Part.TheVariants.{Place}
use Rattle.cmm_emit.specs.Orders.{AreInOrder}

-- the parts between two indexes have those between, at least
pub between : (front piece back : List Part) (k : ℕ) → length front + length piece ≤ k →
    all_shortest piece ≤ all_shortest (drop (length front) (take k (front ++ (piece ++ back))))
between [] [] back k far = omega arith
between [] (p ∷ piece) back zero far = absurd (omega (arith, far))
between [] (p ∷ piece) back (suc k) far = let rest = between [] piece back k (omega (arith, far)) in omega (arith, rest)
between (p ∷ front) piece back zero far = absurd (omega (arith, far))
between (p ∷ front) piece back (suc k) far = between front piece back k (omega (arith, far))

-- ---- lists

pub at_front : {A : Type 0} (front : List A) (x : A) (back : List A) → slice_get (front ++ x ∷ back) (length front) ≡ Some x
at_front [] x back = refl
at_front (y ∷ front) x back = at_front front x back

pub get_front : {A : Type 0} (xs ys : List A) (z : A) (k : ℕ) → slice_get xs k ≡ Some z → slice_get (xs ++ ys) k ≡ Some z
get_front [] ys z k is = absurd (cc)
get_front (x ∷ xs) ys z zero is = is
get_front (x ∷ xs) ys z (suc k) is = get_front xs ys z k is

-- where one list begins two ways, and what is at an index stands in neither of the first parts, the rest is behind both
pub record Split {A : Type 0} (old more front rest : List A) : Type 0 where
  pub middle : List A
  pub is_front : front ≡ old ++ middle
  pub is_more : more ≡ middle ++ rest

pub split : {A : Type 0} (old more front : List A) (x : A) (back : List A) → old ++ more ≡ front ++ x ∷ back →
    ((k : ℕ) → slice_get old k ≡ Some x → ⊥) → Split old more front (x ∷ back)
split [] more front x back same none = record { middle = front; is_front = refl; is_more = same }
split (y ∷ old) more [] x back same none = absurd (none 0 (let e : y ≡ x = cc in ap Some e))
split (y ∷ old) more (z ∷ front) x back same none =
    let rest = split old more front x back (cc) (λ k is. none (suc k) is) in
    record {
      middle = rest.middle;
      is_front = let e : y ≡ z = cc in let tail = rest.is_front in cc;
      is_more = rest.is_more;
    }

-- ---- one label more

pub order_more : (ls : List Label) (old more : List Part) (l : Label) (front piece : List Part) → AreInOrder ls old → more ≡ front ++ Place l ∷ piece →
    4 ≤ all_shortest piece → AreInOrder (ls ++ l ∷ []) (old ++ more)
order_more [] old more l front piece order is word = (
  [],
  record {
    front = old ++ front;
    piece = piece;
    is = rw is (simp (append_assoc, append-nil));
    word = word;
  },
  tt,
)
order_more (first ∷ ls) old more l front piece order is word = (
  order.0 ++ more,
  record {
    front = order.1.front;
    piece = order.1.piece;
    is = ap (λ (ps : List Part). ps ++ more) order.1.is ∙ simp append_assoc;
    word = order.1.word;
  },
  order_more ls order.0 more l front piece order.2 is word,
)
