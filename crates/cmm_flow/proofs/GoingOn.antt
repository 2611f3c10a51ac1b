-- Lists of operands, one after the other.
use Rattle.std.proofs.Common.{◌≡◌, ℕ, suc, ◌+◌, ◌<◌, ◌≤◌, List, [], ◌∷◌, ◌++◌, drop, get_or, length, sym, ap, ◌∙◌, append_assoc, add-one}
use Rattle.std.proofs.Math.Seq.{drop-cons}
use Rattle.std.proofs.lemmas.List.{drop_all, append-nil}

-- A list that is made by going through another one, with a count from a base on.
module _ {A B : Type 0} (of : ℕ → List A → List B) (one : ℕ → A → B)
    (cons : (base : ℕ) (x : A) (xs : List A) → of base (x ∷ xs) ≡ one base x ∷ of (suc base) xs) where
  pub goes_on : (made after : List B) (xs : List A) (i base next : ℕ) (x : A) (y : B) (whole : List B) → i < length xs → x ≡ get_or xs i x → y ≡ one base x →
      next ≡ suc base → after ≡ made ++ y ∷ [] → made ++ of base (drop i xs) ≡ whole → after ++ of next (drop (i + 1) xs) ≡ whole
  goes_on made after xs i base next x y whole within is value bases pushed before =
      ap (λ ys. ys ++ of next (drop (i + 1) xs)) pushed
      ∙ append_assoc made (y ∷ []) (of next (drop (i + 1) xs))
      ∙ ap (λ ys. made ++ ys) (
      ap (λ z. z ∷ of next (drop (i + 1) xs)) value
      ∙ ap (λ j. one base x ∷ of j (drop (i + 1) xs)) bases
      ∙ ap (λ j. one base x ∷ of (suc base) (drop j xs)) (add-one i)
      ∙ sym (cons base x (drop (suc i) xs))
      ∙ ap (λ z. of base (z ∷ drop (suc i) xs)) is
      ∙ ap (of base) (sym (drop-cons xs i x within))
      )
      ∙ before

  pub ends : (made : List B) (xs : List A) (i base : ℕ) (whole : List B) → ((base : ℕ) → of base [] ≡ []) → length xs ≤ i →
      made ++ of base (drop i xs) ≡ whole → made ≡ whole
  ends made xs i base whole nil past before =
      sym (append-nil made) ∙ ap (λ ys. made ++ ys) (sym (nil base) ∙ ap (of base) (sym (drop_all i xs past))) ∙ before
