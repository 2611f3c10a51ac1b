-- The client finds and is shown the same activations, where their dead variables differ.
use Rattle.std.proofs.Common.{◌≡◌, ℕ, zero, suc, ◌<◌, ◌==◌, ◌+◌, ◌-◌, Contains, List, [], ◌∷◌, map, drop, find, length, Option, Some, None, arith, refl, sym, ap, ◌∙◌, subst}
use Rattle.std.specs.Prelude.{Bool, true, false, cond, slice_index_or}
use Rattle.std.specs.List.{AllZip}
use Rattle.cmm_script.specs.Walk.{Shown}
use Rattle.cmm_program.specs.declared.procedure.Proc.{Proc}
use Rattle.cmm_program.specs.Client.{Located, all_located, first_located, located_shown, values_at}
use Rattle.cmm_program.specs.Frames.{Suspended, continuation_value, place_row, procedure_at}
use Rattle.cmm_program.specs.Liveness.{is_live_at}
use Rattle.cmm_program.specs.State.{Setting, Activation, Store, stack_top}
use Rattle.cmm_program.specs.Walks.{spans_shown, variables_shown}
use Rattle.cmm_program.proofs.Shared.{IsFound, StandsAt, found_at, located_same, stands_at}
use Rattle.cmm_script.specs.Walk as walk
use Rattle.cmm_located.specs.Compiled.{bare}
use Rattle.cmm_located.proofs.Entries.{bare_sizes}
use Rattle.cmm_located.proofs.ShowingWalks.{same_variables}

-- the same activation, but for the values of variables that are dead at its site
pub record Same (s : Setting) (a b : Activation) : Type 0 where
  pub is : b ≡ record a { variables = b.variables }
  pub values : (p : Proc) (n v : ℕ) → a.site ≡ Some n → procedure_at s a.procedure ≡ Some p → v < length p.vars → is_live_at p n v ≡ true →
      slice_index_or b.variables v 0 ≡ slice_index_or a.variables v 0

pub drop_same : (s : Setting) (m : ℕ) (xs ys : List Activation) → AllZip (Same s) xs ys → AllZip (Same s) (drop m xs) (drop m ys)
drop_same s zero xs ys same = same
drop_same s (suc m) [] [] same = same
drop_same s (suc m) (x ∷ xs) (y ∷ ys) same = drop_same s m xs ys same.1
drop_same s (suc m) [] (y ∷ ys) same = absurd same
drop_same s (suc m) (x ∷ xs) [] same = absurd same

-- ---- what is found

module _ (s : Setting) where
  same_located : (m : ℕ) (xs ys : List Activation) → AllZip (Same s) xs ys → first_located s m xs ≡ first_located s m ys
  same_located m [] [] same = refl
  same_located m (a ∷ older) (b ∷ others) same =
      subst (λ y. first_located s m (a ∷ older) ≡ first_located s m (y ∷ others)) (sym same.0.is)
      (located_same s m a.procedure a.variables b.variables a.site older others)
  same_located m [] (b ∷ others) same = absurd same
  same_located m (a ∷ older) [] same = absurd same

  pub same_all : (m : ℕ) (xs ys : List Activation) → AllZip (Same s) xs ys → all_located s m xs ≡ all_located s m ys
  same_all m [] [] same = refl
  same_all m (a ∷ older) (b ∷ others) same =
      ap (λ (o : Option Located). elim o as (λ _. List Located) [ Some here ↦ here ∷ all_located s (suc m) older | None ↦ [] ])
      (same_located m (a ∷ older) (b ∷ others) same)
      ∙ ap (λ (l : List Located). elim (first_located s m (b ∷ others)) as (λ _. List Located) [ Some here ↦ here ∷ l | None ↦ [] ])
      (same_all (suc m) older others same.1)
  same_all m [] (b ∷ others) same = absurd same
  same_all m (a ∷ older) [] same = absurd same

  -- what is shown of it
  values_same : (xs ys : List Activation) (here : Suspended) → AllZip (Same s) xs ys → StandsAt s xs here →
      variables_shown here.procedure here.number (values_at xs) 0 here.procedure.vars ≡ variables_shown here.procedure here.number (values_at ys) 0 here.procedure.vars
  values_same (a ∷ older) (b ∷ others) here same stands =
      let is : a ≡ here.activation = cc (stands.stands) in
      let number : a.site ≡ Some here.number = ap (λ (x : Activation). x.site) is ∙ stands.is_number in
      let procedure : procedure_at s a.procedure ≡ Some here.procedure = ap (λ (x : Activation). procedure_at s x.procedure) is ∙ stands.is_procedure in
      same_variables here.procedure here.number a.variables b.variables 0 here.procedure.vars
      (λ v less live. sym (same.0.values here.procedure here.number v number procedure (omega arith) live))
  values_same [] [] here same stands = refl
  values_same [] (b ∷ others) here same stands = absurd same
  values_same (a ∷ older) [] here same stands = absurd same

  pub shown_same : (x y : Store) (a : Located) → AllZip (Same s) x.activations y.activations → IsFound s x a → located_shown s x a ≡ located_shown s y a
  shown_same x y a same found =
      let here = found_at s x a found in
      let variables = values_same (drop a.younger x.activations) (drop a.younger y.activations) here.0 (drop_same s a.younger x.activations y.activations same)
      (stands_at s (drop a.younger x.activations) here.0 here.1) in
      let shows : (p : Proc) (number : ℕ) → List Shown → walk.Activation = λ p number vs. record { procedure = p.name; site = number; spans = spans_shown s here.0.site; variables = vs } in
      subst (λ (b : Located). located_shown s x b ≡ located_shown s y b) here.2 (ap (shows here.0.procedure here.0.number) variables)

-- ---- what a cut finds

at_cond : (q : ℕ → Bool) (x k : ℕ) (b : Bool) (o : Option ℕ) (xs : List ℕ) → cond b (Some x) o ≡ Some k → (o ≡ Some k → Contains xs k) → Contains (x ∷ xs) k
at_cond q x k true o xs is rest = (0, omega arith, cc (is))
at_cond q x k false o xs is rest = let there = rest is in (suc there.0, omega (arith, there.1), there.2)

-- what is found is among them
pub find_contains : (q : ℕ → Bool) (xs : List ℕ) (k : ℕ) → find q xs ≡ Some k → Contains xs k
find_contains q [] k is = absurd (cc (is))
find_contains q (x ∷ xs) k is = at_cond q x k (q x) (find q xs) xs is (λ there. find_contains q xs k there)

module _ (s : Setting) (value : ℕ) (cuts : List ℕ) where
  -- activations without their values are the same
  pub bare_same : (xs ys : List Activation) → AllZip (Same s) xs ys → map bare ys ≡ map bare xs
  bare_same [] [] same = refl
  bare_same (x ∷ xs) (y ∷ ys) same = ap (λ a. bare a ∷ map bare ys) same.0.is ∙ ap (λ l. bare x ∷ l) (bare_same xs ys same.1)
  bare_same [] (y ∷ ys) same = absurd same
  bare_same (x ∷ xs) [] same = absurd same

  abbrev among : List Activation → Option ℕ
  among xs = find (λ k. continuation_value s xs k == value) cuts

  bare_number : (xs : List Activation) → among (map bare xs) ≡ among xs
  bare_number [] = refl
  bare_number (a ∷ older) =
      ap (λ total. find (λ k. (stack_top s - total + slice_index_or (place_row s a.procedure).pairs k 0) == value) cuts) (bare_sizes s (a ∷ older))

  pub same_number : (xs ys : List Activation) → AllZip (Same s) xs ys → among xs ≡ among ys
  same_number xs ys same = sym (bare_number xs) ∙ (ap among (sym (bare_same xs ys same)) ∙ bare_number ys)
