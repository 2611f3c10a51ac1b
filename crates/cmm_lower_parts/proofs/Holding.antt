-- Where numbers have 32 bits, they stay as they are.
use Rattle.std.proofs.Common.{◌≡◌, refl, ap, ◌∙◌, ℕ, suc, ◌^◌, ◌<◌, List, [], ◌∷◌, map, arith}
use Rattle.std.specs.List.{All}
use Rattle.cmm_program.specs.declared.procedure.StackItem.{StackItem}
use Rattle.cmm_program.specs.declared.program.Datum.{Datum}
use Rattle.cmm_lower_parts.specs.Held.{held, datum_held, item_held}

pub held_same : (n : ℕ) → n < 2 ^ 32 → held n ≡ n
held_same n small = grind (arith, small)

-- what changes none of a list's items
pub unchanged : {A : Type 0} (f : A → A) (xs : List A) → All (λ x. f x ≡ x) xs → map f xs ≡ xs
unchanged f [] all = refl
unchanged f (x ∷ xs) all = ap (λ y. y ∷ map f xs) (all 0 x (omega arith)) ∙ ap (λ ys. x ∷ ys) (unchanged f xs (λ k d inside. all (suc k) d (omega (arith, inside))))

pub datums_same : (ds : List Datum) → All (λ d. d.length < 2 ^ 32) ds → map datum_held ds ≡ ds
datums_same ds fit = unchanged datum_held ds (λ k d inside. one (fit k d inside))
  where
    one : {d : Datum} → d.length < 2 ^ 32 → datum_held d ≡ d
    one {d} small = ap (λ n. record d { length = n }) (held_same d.length small)

pub items_same : (is : List StackItem) → All (λ i. i.length < 2 ^ 32) is → map item_held is ≡ is
items_same is fit = unchanged item_held is (λ k d inside. one (fit k d inside))
  where
    one : {i : StackItem} → i.length < 2 ^ 32 → item_held i ≡ i
    one {i} small = ap (λ n. record i { length = n }) (held_same i.length small)
