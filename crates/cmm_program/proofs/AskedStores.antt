-- The store as a client asks it: which activations are found, what a walk shows of them, and that a variable which is set leaves them.
use Rattle.std.proofs.Common.{◌≡◌, ℕ, zero, suc, ◌+◌, Option, Some, None, List, [], ◌∷◌, drop, map, slice_get, refl, ap, sym, ◌∙◌, subst, zero-add, arith}
use Rattle.std.specs.Prelude.{slice_set}
use Rattle.std.specs.List.{AllByRecursion}
use Rattle.std.proofs.lemmas.Option.{same_Some}
use Rattle.cmm_words.specs.Widths.{bits}
use Rattle.cmm_script.specs.Walk.{Shown, walk_text}
use Rattle.cmm_script.specs.Walk as walk
use Rattle.cmm_program.specs.declared.procedure.Proc.{Proc}
use Rattle.cmm_program.specs.declared.procedure.Site.{Site}
use Rattle.cmm_program.specs.declared.procedure.VarInfo.{VarInfo}
use Rattle.cmm_program.specs.Errors.{with_some}
use Rattle.cmm_program.specs.State.{Setting, Activation, Store}
use Rattle.cmm_program.specs.Frames.{Suspended, procedure_at, suspended_at}
use Rattle.cmm_program.specs.Walks.{live_value, variables_shown, activations_shown, walk_of, activation_shown}
use Rattle.cmm_program.specs.Commands.{Goes}
use Rattle.cmm_program.specs.Laws.{ListingIsTheWalk}
use Rattle.cmm_program.specs.Client.{Located, located, first_located, all_located, at_number, located_shown, values_at, with_value, with_variable}

-- ---- lists and options

-- what a step leads to comes from what was there
pub some_by : {A B : Type 0} (o : Option A) (f : A → Option B) (y : B) → with_some o f ≡ Some y → (x : A) × (o ≡ Some x) × (f x ≡ Some y)
some_by (Some x) f y is = (x, refl, is)
some_by None f y is = absurd cc

pub drop_more : {A : Type 0} (n : ℕ) (xs : List A) (x : A) (rest : List A) → drop n xs ≡ x ∷ rest → drop (suc n) xs ≡ rest
drop_more zero [] x rest is = absurd cc
drop_more zero (y ∷ ys) x rest is = cc
drop_more (suc n) [] x rest is = absurd cc
drop_more (suc n) (y ∷ ys) x rest is = drop_more n ys x rest is

-- ---- suspended activations

module _ (s : Setting) where
  -- a suspended activation is the youngest, at a site of its procedure
  pub record StandsAt (xs : List Activation) (here : Suspended) : Type 0 where
    pub older : List Activation
    pub stands : xs ≡ here.activation ∷ older
    pub is_number : here.activation.site ≡ Some here.number
    pub is_procedure : procedure_at s here.activation.procedure ≡ Some here.procedure
    pub is_site : slice_get here.procedure.sites here.number ≡ Some here.site

  pub stands_at : (xs : List Activation) (here : Suspended) → suspended_at s xs ≡ Some here → StandsAt xs here
  stands_at [] here is = absurd cc
  stands_at (a ∷ older) here is =
      let number = some_by a.site (λ n. with_some (procedure_at s a.procedure) (λ p. with_some (slice_get p.sites n) (λ site.
      Some (record { activation = a; procedure = p; number = n; site = site })))) here is in
      let procedure = some_by (procedure_at s a.procedure) (λ p. with_some (slice_get p.sites number.0) (λ site.
      Some (record { activation = a; procedure = p; number = number.0; site = site }))) here number.2 in
      let site = some_by (slice_get procedure.0.sites number.0) (λ site.
      Some (record { activation = a; procedure = procedure.0; number = number.0; site = site })) here procedure.2 in
      let made : Suspended = record { activation = a; procedure = procedure.0; number = number.0; site = site.0 } in
      subst (λ (h : Suspended). StandsAt (a ∷ older) h) (same_Some made here site.2)
      (record { older = older; stands = refl; is_number = number.1; is_procedure = procedure.1; is_site = site.1 })

  abbrev suspended : ℕ → List ℕ → ℕ → Proc → Site → Suspended
  suspended q values number p site =
      record { activation = record { procedure = q; variables = values; site = Some number }; procedure = p; number = number; site = site }

  same_by_site : (n q : ℕ) (values others : List ℕ) (k : ℕ) (p : Proc) (o : Option Site) →
      with_some (with_some o (λ site. Some (suspended q values k p site))) (λ h. Some (located n h))
      ≡ with_some (with_some o (λ site. Some (suspended q others k p site))) (λ h. Some (located n h))
  same_by_site n q values others k p (Some site) = refl
  same_by_site n q values others k p None = refl

  same_by_procedure : (n q : ℕ) (values others : List ℕ) (k : ℕ) (o : Option Proc) →
      with_some (with_some o (λ p. with_some (slice_get p.sites k) (λ site. Some (suspended q values k p site)))) (λ h. Some (located n h))
      ≡ with_some (with_some o (λ p. with_some (slice_get p.sites k) (λ site. Some (suspended q others k p site)))) (λ h. Some (located n h))
  same_by_procedure n q values others k (Some p) = same_by_site n q values others k p (slice_get p.sites k)
  same_by_procedure n q values others k None = refl

  -- an activation is found, whatever values its variables have
  pub located_same : (n q : ℕ) (values others : List ℕ) (site : Option ℕ) (older rest : List Activation) →
      let a : Activation = record { procedure = q; variables = values; site = site } in
      let b : Activation = record { procedure = q; variables = others; site = site } in
      first_located s n (a ∷ older) ≡ first_located s n (b ∷ rest)
  located_same n q values others None older rest = refl
  located_same n q values others (Some k) older rest = same_by_procedure n q values others k (procedure_at s q)

  -- and where a variable of any activation is set
  pub value_located : (cursor n value k : ℕ) (xs : List Activation) →
      first_located s k (drop k (with_value cursor n value xs)) ≡ first_located s k (drop k xs)
  value_located cursor n value k xs = by cursor k xs k
    where
      by : (cursor k : ℕ) (xs : List Activation) (m : ℕ) → first_located s m (drop k (with_value cursor n value xs)) ≡ first_located s m (drop k xs)
      by cursor k [] m = refl
      by zero zero (a ∷ older) m = located_same m a.procedure (slice_set a.variables n value) a.variables a.site older older
      by zero (suc k) (a ∷ older) m = refl
      by (suc cursor) zero (a ∷ older) m = located_same m a.procedure a.variables a.variables a.site (with_value cursor n value older) older
      by (suc cursor) (suc k) (a ∷ older) m = by cursor k older m

  -- ---- those of a store

  -- an activation is one that is found in a store
  abbrev pub IsFound : Store → Located → Type 0
  IsFound store a = at_number s a.younger store ≡ Some a

  -- it is where it says
  pub found_at : (store : Store) (a : Located) → IsFound store a →
      (here : Suspended) × (suspended_at s (drop a.younger store.activations) ≡ Some here) × (located a.younger here ≡ a)
  found_at store a is =
      let here = some_by (suspended_at s (drop a.younger store.activations)) (λ h. Some (located a.younger h)) a is in
      (here.0, here.1, same_Some (located a.younger here.0) a here.2)

  pub set_found : (store : Store) (a b : Located) (n value : ℕ) → IsFound store b → IsFound (with_variable store a n value) b
  set_found store a b n value is = value_located a.younger n value b.younger store.activations ∙ is

  younger_is : (n : ℕ) (xs : List Activation) (a : Located) → first_located s n xs ≡ Some a → a.younger ≡ n
  younger_is n xs a is =
      let here = some_by (suspended_at s xs) (λ h. Some (located n h)) a is in
      sym (ap (λ (b : Located). b.younger) (same_Some (located n here.0) a here.2))

  -- all of a chain are found
  pub all_found : (store : Store) (n : ℕ) (rest : List Activation) → drop n store.activations ≡ rest → AllByRecursion (IsFound store) (all_located s n rest)
  all_found store n [] is = tt
  all_found store n (a ∷ older) is =
      by (first_located s n (a ∷ older)) refl (all_found store (suc n) older (drop_more n store.activations a older is))
    where
      by : (o : Option Located) → first_located s n (a ∷ older) ≡ o → AllByRecursion (IsFound store) (all_located s (suc n) older) →
          AllByRecursion (IsFound store) (elim o as (λ _. List Located) [ Some here ↦ here ∷ all_located s (suc n) older | None ↦ [] ])
      by (Some here) found all =
          let same = younger_is n (a ∷ older) here found in
          (ap (λ (k : ℕ). first_located s k (drop k store.activations)) same ∙ ap (first_located s n) is ∙ found, all)
      by None found all = tt

  -- the first of a chain is the youngest
  pub youngest_is : (n : ℕ) (xs : List Activation) (a : Located) (rest : List Located) → all_located s n xs ≡ a ∷ rest → a.younger ≡ n
  youngest_is n [] a rest is = absurd cc
  youngest_is n (x ∷ older) a rest is = by (first_located s n (x ∷ older)) refl is
    where
      by : (o : Option Located) → first_located s n (x ∷ older) ≡ o →
          elim o as (λ _. List Located) [ Some here ↦ here ∷ all_located s (suc n) older | None ↦ [] ] ≡ a ∷ rest → a.younger ≡ n
      by (Some here) found is = let same : here ≡ a = cc (is) in younger_is n (x ∷ older) a (found ∙ ap (λ (b : Located). Some b) same)
      by None found is = absurd (cc (is))

  -- ---- what a walk shows

  -- the values of an activation that is found
  pub values_here : (rest : List Activation) (here : Suspended) → suspended_at s rest ≡ Some here → values_at rest ≡ here.activation.variables
  values_here [] here is = absurd cc
  values_here (a ∷ older) here is = ap values_at (stands_at (a ∷ older) here is).stands

  pub shown_here : (store : Store) (n : ℕ) (here : Suspended) → suspended_at s (drop n store.activations) ≡ Some here →
      located_shown s store (located n here) ≡ activation_shown s here
  shown_here store n here is =
      ap (λ (vs : List ℕ). activation_shown s record here { activation = record here.activation { variables = vs } }) (values_here (drop n store.activations) here is)

abbrev pub variable_shown : Proc → ℕ → List ℕ → ℕ → VarInfo → Shown
variable_shown p site values n v = record { width = bits v.width; kind = v.kind; invariant = v.invariant; value = live_value p site values n }

shown_at : (p : Proc) (site : ℕ) (values : List ℕ) (first k : ℕ) (vars : List VarInfo) →
    slice_get (variables_shown p site values first vars) k ≡ with_some (slice_get vars k) (λ v. Some (variable_shown p site values (first + k) v))
shown_at p site values first k [] = refl
shown_at p site values first zero (v ∷ vs) =
    let same : first ≡ first + 0 = omega arith in ap (λ (n : ℕ). Some (variable_shown p site values n v)) same
shown_at p site values first (suc k) (v ∷ vs) =
    let more : suc first + k ≡ first + suc k = omega arith in
    shown_at p site values (suc first) k vs ∙ ap (λ (n : ℕ). with_some (slice_get vs k) (λ v. Some (variable_shown p site values n v))) more

-- a variable as it is shown
pub shown_of : (p : Proc) (site : ℕ) (values : List ℕ) (k : ℕ) (vars : List VarInfo) →
    slice_get (variables_shown p site values 0 vars) k ≡ with_some (slice_get vars k) (λ v. Some (variable_shown p site values k v))
shown_of p site values k vars =
    shown_at p site values 0 k vars ∙ ap (λ (n : ℕ). with_some (slice_get vars k) (λ v. Some (variable_shown p site values n v))) (zero-add k)

-- ---- the whole walk

-- the client is shown the walk of the store
module _ (s : Setting) (store : Store) where
  walk_step : (n : ℕ) (o : Option Suspended) (xs : List walk.Activation) (ys : List Located) →
      ((here : Suspended) → o ≡ Some here → located_shown s store (located n here) ≡ activation_shown s here) → map (located_shown s store) ys ≡ xs →
      map (located_shown s store) (elim (with_some o (λ h. Some (located n h))) as (λ _. List Located) [ Some here ↦ here ∷ ys | None ↦ [] ])
      ≡ elim o as (λ _. List walk.Activation) [ Some here ↦ activation_shown s here ∷ xs | None ↦ [] ]
  walk_step n (Some here) xs ys shown rest =
      ap (λ (a : walk.Activation). a ∷ map (located_shown s store) ys) (shown here refl) ∙ ap (λ (l : List walk.Activation). activation_shown s here ∷ l) rest
  walk_step n None xs ys shown rest = refl

  walk_behind : (rest : List Activation) (n : ℕ) → drop n store.activations ≡ rest → map (located_shown s store) (all_located s n rest) ≡ activations_shown s rest
  walk_behind [] n is = refl
  walk_behind (a ∷ older) n is =
      walk_step n (suspended_at s (a ∷ older)) (activations_shown s older) (all_located s (suc n) older)
      (λ here there. shown_here s store n here (ap (suspended_at s) is ∙ there)) (walk_behind older (suc n) (drop_more n store.activations a older is))

  pub walk_is_listed : map (located_shown s store) (all_located s 0 store.activations) ≡ walk_of s store
  walk_is_listed = walk_behind store.activations 0 refl

pub listing_is_the_walk : ListingIsTheWalk
listing_is_the_walk s yielded cursor store =
    ap (λ (w : List walk.Activation). record { text = walk_text w; after = Goes cursor store }) (walk_is_listed s store)
