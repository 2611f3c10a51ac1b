-- The least count with which all elements of a list pass a test.
use Rattle.std.proofs.Common.{◌≡◌, ℕ, ◌+◌, ◌<◌, ◌≤◌, max, ◌&&◌, IsTrue, Bool, true, List, [], ◌∷◌, ◌++◌, get_or, length, take, refl, sym, subst, arith}
use Rattle.std.specs.Prelude.{◌↔◌}
use Rattle.std.specs.List.{list_all}
use Rattle.std.proofs.lemmas.Bool.{and_parts}
use Rattle.std.proofs.lemmas.List.{take_more}
use Rattle.cmm_flow.specs.inside.Temporaries.{IsLeast}
use Rattle.cmm_flow.proofs.Laying.{and_both, both_pass, each_pass}

module _ {A : Type 0} (passes : ℕ → A → Bool) where
  pub least_of_none : IsLeast passes [] 0
  least_of_none limit = (λ least. refl, λ all. omega arith)

  -- a count of one more
  pub least_more : (xs : List A) (i : ℕ) (d : A) (count one more : ℕ) → i < length xs → IsLeast passes (take i xs) count →
      ((limit : ℕ) → (one ≤ limit) ↔ IsTrue (passes limit (get_or xs i d))) → more ≡ max one count → IsLeast passes (take (i + 1) xs) more
  least_more xs i d count one more less least at both limit =
      let front = take i xs in
      let x = get_or xs i d in
      let grown : take (i + 1) xs ≡ front ++ x ∷ [] = take_more xs i d less in (
        λ holds.
            let first = (least limit).0 (omega (arith, both, holds)) in
            let last = (at limit).0 (omega (arith, both, holds)) in
            subst (λ xs. IsTrue (list_all (passes limit) xs)) (sym grown)
            (both_pass (passes limit) front (x ∷ []) first (and_both (passes limit x) true last refl)),
        λ all.
            let apart = each_pass (passes limit) front (x ∷ []) (subst (λ xs. IsTrue (list_all (passes limit) xs)) grown all) in
            let first = (least limit).1 apart.0 in
            let last = (at limit).1 (and_parts (passes limit x) true apart.1).0 in
            omega (arith, both, first, last),
      )

-- a count of two tests
pub least_of_both : (a b : Bool) (one two : ℕ) (limit : ℕ) → (one ≤ limit) ↔ IsTrue a → (two ≤ limit) ↔ IsTrue b → (max one two ≤ limit) ↔ IsTrue (a && b)
least_of_both a b one two limit first second = (
  λ holds. and_both a b (first.0 (omega (arith, holds))) (second.0 (omega (arith, holds))),
  λ all. let apart = and_parts a b all in let x = first.1 apart.0 in let y = second.1 apart.1 in omega (arith, x, y),
)
