-- Lists of which each item is judged by what was before it: one more item.
use Rattle.std.proofs.Common.{◌≡◌, ap, sym, ◌∙◌, List, [], ◌∷◌, ◌++◌, append_assoc, append-nil, Option}
use Rattle.cmm_static_semantics.proofs.Shared.{first_of_append}
use Rattle.cmm_static_semantics.specs.declared.spot.Spot.{Spot}
use Rattle.cmm_static_semantics.specs.Spots.{first_of}

-- faults by what was before, and what is before the next item
pub record Walk {S X : Type 0} (step : S → X → List Spot) (after : S → X → S) (total : S → List X → List Spot) (state : S → List X → S) : Type 0 where
  pub none : (s : S) → total s [] ≡ []
  pub more : (s : S) (x : X) (xs : List X) → total s (x ∷ xs) ≡ step s x ++ total (after s x) xs
  pub same : (s : S) → state s [] ≡ s
  pub moved : (s : S) (x : X) (xs : List X) → state s (x ∷ xs) ≡ state (after s x) xs

module _ {S X : Type 0} (step : S → X → List Spot) (after : S → X → S) (total : S → List X → List Spot) (state : S → List X → S) (walk : Walk step after total state) where
  pub state_push : (s : S) (xs : List X) (x : X) → state s (xs ++ x ∷ []) ≡ after (state s xs) x
  state_push s [] x = walk.moved s x [] ∙ walk.same (after s x) ∙ sym (ap (λ t. after t x) (walk.same s))
  state_push s (y ∷ ys) x = walk.moved s y (ys ++ x ∷ []) ∙ state_push (after s y) ys x ∙ sym (ap (λ t. after t x) (walk.moved s y ys))

  pub total_push : (s : S) (xs : List X) (x : X) → total s (xs ++ x ∷ []) ≡ total s xs ++ step (state s xs) x
  total_push s [] x = walk.more s x [] ∙ ap (λ t. step s x ++ t) (walk.none (after s x)) ∙ append-nil (step s x)
      ∙ sym (ap (λ t. t ++ step (state s []) x) (walk.none s) ∙ ap (λ t. step t x) (walk.same s))
  total_push s (y ∷ ys) x = walk.more s y (ys ++ x ∷ []) ∙ ap (λ t. step s y ++ t) (total_push (after s y) ys x)
      ∙ sym (append_assoc (step s y) (total (after s y) ys) (step (state (after s y) ys) x))
      ∙ sym (ap (λ t. t ++ step (state s (y ∷ ys)) x) (walk.more s y ys) ∙ ap (λ t. (step s y ++ total (after s y) ys) ++ step t x) (walk.moved s y ys))

  -- a turn of a loop
  pub walked : (s : S) (xs ys : List X) (x : X) (first best next : Option Spot) → ys ≡ xs ++ x ∷ [] → best ≡ first_of first (total s xs) →
      next ≡ first_of best (step (state s xs) x) → next ≡ first_of first (total s ys)
  walked s xs ys x first best next grown so_far turn = turn ∙ ap (λ b. first_of b (step (state s xs) x)) so_far
      ∙ sym (first_of_append first (total s xs) (step (state s xs) x)) ∙ sym (ap (λ t. first_of first (total s t)) grown ∙ ap (first_of first) (total_push s xs x))

  pub moved_on : (s : S) (xs ys : List X) (x : X) → ys ≡ xs ++ x ∷ [] → state s ys ≡ after (state s xs) x
  moved_on s xs ys x grown = ap (state s) grown ∙ state_push s xs x
