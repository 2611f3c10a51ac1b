-- Lists that are numbered one after the other.
use Rattle.std.proofs.Common.{◌≡◌, ℕ, zero, suc, ◌+◌, List, [], ◌∷◌, ◌++◌, map, sym, ap, ◌∙◌, arith}
use Rattle.std.proofs.lemmas.List.{map-append}
use Rattle.std.specs.List.{range_with_len}

range_more : (a n : ℕ) → range_with_len a (suc n) ≡ range_with_len a n ++ (a + n) ∷ []
range_more a zero = let same : a ≡ a + 0 = omega arith in ap (λ i. i ∷ []) same
range_more a (suc n) =
    let same : a + 1 + n ≡ a + suc n = omega arith in
    ap (λ xs. a ∷ xs) (range_more (a + 1) n) ∙ ap (λ i. a ∷ (range_with_len (a + 1) n ++ i ∷ [])) same

-- one more at the end
pub counted_more : {A : Type 0} (number : A → ℕ) (xs ys : List A) (x : A) (a n : ℕ) → map number xs ≡ range_with_len a n → ys ≡ xs ++ x ∷ [] →
    number x ≡ a + n → map number ys ≡ range_with_len a (n + 1)
counted_more number xs ys x a n before pushed is =
    let next : suc n ≡ n + 1 = omega arith in
    ap (map number) pushed ∙ map-append number xs (x ∷ []) ∙ ap (λ zs. zs ++ number x ∷ []) before ∙ ap (λ i. range_with_len a n ++ i ∷ []) is
    ∙ sym (range_more a n) ∙ ap (range_with_len a) next
