-- A walk over a list that puts in the place of each element one that stands for it, or leaves it.
use Rattle.std.proofs.Common.{◌≡◌, ℕ, zero, suc, ◌+◌, ◌<◌, ◌≤◌, refl, sym, ◌∙◌, subst, arith, List, [], ◌∷◌, set, Some}
use Rattle.std.specs.Prelude.{slice_get}
use Rattle.std.specs.List.{AllZip}
use Rattle.std.proofs.lemmas.Option.{same_Some}

set_before : {X : Type 0} (xs : List X) (i k : ℕ) (b : X) → i < k → slice_get (set xs i b) k ≡ slice_get xs k
set_before [] i k b less = refl
set_before (x ∷ xs) i zero b less = absurd (omega arith)
set_before (x ∷ xs) zero (suc k) b less = refl
set_before (x ∷ xs) (suc i) (suc k) b less = set_before xs i k b (omega arith)

module _ {X : Type 0} (R : X → X → Type 0) where
  -- each element stands for the one that was in its place, and those from an index on are as they were
  pub record IsWalked (old : List X) (i : ℕ) (now : List X) : Type 0 where
    pub stand : AllZip R old now
    pub rest : (k : ℕ) → i ≤ k → slice_get now k ≡ slice_get old k

  stand_set : (old now : List X) (i : ℕ) (a b : X) → AllZip R old now → slice_get old i ≡ Some a → R a b → AllZip R old (set now i b)
  stand_set [] [] i a b all is stands = all
  stand_set [] (x ∷ now) i a b all is stands = absurd all
  stand_set (o ∷ old) [] i a b all is stands = absurd all
  stand_set (o ∷ old) (x ∷ now) zero a b all is stands = (subst (λ (y : X). R y b) (sym (same_Some o a is)) stands, all.1)
  stand_set (o ∷ old) (x ∷ now) (suc i) a b all is stands = (all.0, stand_set old now i a b all.1 is stands)

  -- the element at the index is left
  pub walk_passes : (old now : List X) (i : ℕ) → IsWalked old i now → IsWalked old (i + 1) now
  walk_passes old now i state = record { stand = state.stand; rest = λ k more. state.rest k (omega arith) }

  -- another stands for it
  pub walk_steps : (old now : List X) (i : ℕ) (a b : X) → slice_get now i ≡ Some a → R a b → IsWalked old i now → IsWalked old (i + 1) (set now i b)
  walk_steps old now i a b is stands state = record {
    stand = stand_set old now i a b state.stand (sym (state.rest i (omega arith)) ∙ is) stands;
    rest = λ k more. set_before now i k b (omega arith) ∙ state.rest k (omega arith);
  }

  module _ (itself : (x : X) → R x x) where
    pub stand_for_themselves : (xs : List X) → AllZip R xs xs
    stand_for_themselves [] = tt
    stand_for_themselves (x ∷ xs) = (itself x, stand_for_themselves xs)

    pub walk_begins : (xs : List X) → IsWalked xs 0 xs
    walk_begins xs = record { stand = stand_for_themselves xs; rest = λ k more. refl }
