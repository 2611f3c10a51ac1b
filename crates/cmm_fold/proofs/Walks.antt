-- A walk over a list that puts in the place of each element one that stands for it, or leaves it.
use Rattle.std.proofs.Common.{◌≡◌, ℕ, zero, suc, ◌+◌, ◌<◌, ◌≤◌, ◌⊎◌, inl, inr, refl, sym, ◌∙◌, subst, arith, List, [], ◌∷◌, length, set, Some}
use Rattle.std.specs.Prelude.{slice_get}
use Rattle.std.specs.List.{All, AllZip}
use Rattle.std.proofs.lemmas.List.Elements.{All-cons, All-nil}
use Rattle.std.proofs.lemmas.Option.{same_Some}

set_here : {X : Type 0} (xs : List X) (i : ℕ) (a b : X) → slice_get xs i ≡ Some a → slice_get (set xs i b) i ≡ Some b
set_here [] i a b is = absurd (cc)
set_here (x ∷ xs) zero a b is = refl
set_here (x ∷ xs) (suc i) a b is = set_here xs i a b is

set_other : {X : Type 0} (xs : List X) (i k : ℕ) (b : X) → k < i → slice_get (set xs i b) k ≡ slice_get xs k
set_other [] i k b less = refl
set_other (x ∷ xs) zero k b less = absurd (omega arith)
set_other (x ∷ xs) (suc i) zero b less = refl
set_other (x ∷ xs) (suc i) (suc k) b less = set_other xs i k b (omega arith)

last_or_below : (k i : ℕ) → k < i + 1 → (k < i) ⊎ (k ≡ i)
last_or_below k i h = grind arith

module _ {X : Type 0} (R : X → X → Type 0) (P : X → Type 0) where
  -- each element stands for the one that was in its place, and those before an index have what is wanted
  pub record IsWalked (first : List X) (i : ℕ) (now : List X) : Type 0 where
    pub stand : AllZip R first now
    pub done : (k : ℕ) (x : X) → k < i → slice_get now k ≡ Some x → P x

  pub walk_ends : (first now : List X) (i : ℕ) → length now ≤ i → IsWalked first i now → All P now
  walk_ends first now i enough state = by now i enough state.done
    where
      by : (xs : List X) (i : ℕ) → length xs ≤ i → ((k : ℕ) (x : X) → k < i → slice_get xs k ≡ Some x → P x) → All P xs
      by [] i enough done = All-nil P
      by (x ∷ xs) zero enough done = absurd (omega arith)
      by (x ∷ xs) (suc i) enough done = All-cons P x xs (done 0 x (omega arith) refl) (by xs i (omega arith) (λ k y less at. done (suc k) y (omega arith) at))

  -- the element at the index is left
  pub walk_passes : (first now : List X) (i : ℕ) (a : X) → slice_get now i ≡ Some a → P a → IsWalked first i now → IsWalked first (i + 1) now
  walk_passes first now i a is has state = record { stand = state.stand; done = done }
    where
      done : (k : ℕ) (x : X) → k < i + 1 → slice_get now k ≡ Some x → P x
      done k x less at =
          elim (last_or_below k i less) [
            | inl h ↦ state.done k x h at
            | inr e ↦
                let here : slice_get now i ≡ Some x = subst (λ j. slice_get now j ≡ Some x) e at in
                let same : a ≡ x = same_Some a x (sym is ∙ here) in
                subst P same has
          ]

  module _ (itself : (x : X) → R x x) (then_ : (a b c : X) → R a b → R b c → R a c) where
    pub walk_begins : (xs : List X) → IsWalked xs 0 xs
    walk_begins xs = record { stand = same xs; done = λ k x less at. absurd (omega arith) }
      where
        same : (xs : List X) → AllZip R xs xs
        same [] = tt
        same (x ∷ xs) = (itself x, same xs)

    stand_more : (first now : List X) (i : ℕ) (a b : X) → AllZip R first now → slice_get now i ≡ Some a → R a b → AllZip R first (set now i b)
    stand_more [] [] i a b all is stands = all
    stand_more [] (x ∷ now) i a b all is stands = absurd all
    stand_more (o ∷ first) [] i a b all is stands = absurd all
    stand_more (o ∷ first) (x ∷ now) zero a b all is stands = (then_ o x b all.0 (subst (λ (y : X). R y b) (sym (same_Some x a is)) stands), all.1)
    stand_more (o ∷ first) (x ∷ now) (suc i) a b all is stands = (all.0, stand_more first now i a b all.1 is stands)

    -- another stands for it
    pub walk_steps : (first now : List X) (i : ℕ) (a b : X) → slice_get now i ≡ Some a → R a b → P b → IsWalked first i now → IsWalked first (i + 1) (set now i b)
    walk_steps first now i a b is stands has state =
        walk_passes first (set now i b) i b (set_here now i a b is) has record {
          stand = stand_more first now i a b state.stand is stands;
          done = λ k x less at. state.done k x less (sym (set_other now i k b less) ∙ at);
        }
