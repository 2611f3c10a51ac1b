-- Items past a limit, and of lists one after another.
use Rattle.std.proofs.Common.{◌≡◌, ℕ, suc, zero, ◌+◌, ◌-◌, ◌<◌, ◌≤◌, refl, ap, sym, ◌∙◌, arith, length, List, [], ◌∷◌, ◌++◌, Option, Some, None}
use Rattle.std.specs.Prelude.{slice_get}
use Rattle.cmm_rules.specs.declared.rule.Rule.{Rule}
use Rattle.cmm_static_semantics.specs.declared.spot.Spot.{Spot}
use Rattle.cmm_static_semantics.specs.Spots.{at, first_of}
use Rattle.cmm_static_semantics.specs.Expressions.{past_limit}

-- past the end of the first of two
pub get_later : {A : Type 0} (xs ys : List A) (k : ℕ) → length xs ≤ k → slice_get (xs ++ ys) k ≡ slice_get ys (k - length xs)
get_later [] ys k le = let e : k - 0 ≡ k = omega arith in ap (slice_get ys) (sym e)
get_later (x ∷ xs) ys zero le = absurd (omega arith)
get_later (x ∷ xs) ys (suc k) le = let e : suc k - length (x ∷ xs) ≡ k - length xs = omega arith in get_later xs ys k (omega arith) ∙ ap (slice_get ys) (sym e)

-- within the first of two
pub get_earlier : {A : Type 0} (xs ys : List A) (k : ℕ) → k < length xs → slice_get (xs ++ ys) k ≡ slice_get xs k
get_earlier [] ys k lt = absurd (omega arith)
get_earlier (x ∷ xs) ys zero lt = refl
get_earlier (x ∷ xs) ys (suc k) lt = get_earlier xs ys k (omega arith)

-- an item past the limit
pub past_some : {A : Type 0} (best : Option Spot) (rule : Rule) (limit : ℕ) (token : A → ℕ) (xs : List A) (x : A) → Some x ≡ slice_get xs limit →
    first_of best (at rule (token x)) ≡ first_of best (past_limit rule limit token xs)
past_some best rule limit token xs x is = ap (λ o. first_of best (elim o [ Some a ↦ at rule (token a) | None ↦ [] ])) is

pub past_none : {A : Type 0} (best : Option Spot) (rule : Rule) (limit : ℕ) (token : A → ℕ) (xs : List A) → None ≡ slice_get xs limit →
    best ≡ first_of best (past_limit rule limit token xs)
past_none best rule limit token xs is = ap (λ o. first_of best (elim o [ Some a ↦ at rule (token a) | None ↦ [] ])) is
