-- The first of faults does not depend on the order in which they are listed, since of two that differ one is named before the other.
use Rattle.std.proofs.Common.{◌≡◌, ℕ, ◌<◌, ◌==◌, Bool, true, false, ◌||◌, ◌&&◌, ◌⊎◌, inl, inr, List, [], ◌∷◌, ◌++◌, Option, Some, None, refl, sym, ◌∙◌, ap, arith}
use Rattle.std.specs.Prelude.{nat_lt, flat_map}
use Rattle.std.proofs.lemmas.Bool.Decides.{nat_tests}
use Rattle.std.proofs.lemmas.Bool.{and_parts, or_cases, eqb-true, eq-eqb, ltb-true, lt-ltb, false_from_ne_true, both_ways}
use Rattle.cmm_rules.specs.declared.rule.Rule.{Rule}
use Rattle.cmm_rules.specs.Rules.{rule_number}
use Rattle.cmm_rules.proofs.Shared.{one_rule}
use Rattle.cmm_static_semantics.specs.declared.spot.Spot.{Spot}
use Rattle.cmm_static_semantics.specs.Spots.{sooner_by, first_by, comes_before}
use Rattle.cmm_static_semantics.proofs.Shared.{first_by_append}

-- ---- orders: of two that are not the same, one comes before the other

abbrev Three : {A : Type 0} → (A → A → Bool) → (A → A → Type 0) → A → A → Type 0
Three before Same a b = (before a b ≡ true) ⊎ (Same a b ⊎ (before b a ≡ true))

pub record IsOrderOf {A : Type 0} (before : A → A → Bool) (Same : A → A → Type 0) : Type 0 where
  pub itself : (a : A) → before a a ≡ true → ⊥
  pub through : (a b c : A) → before a b ≡ true → before b c ≡ true → before a c ≡ true
  pub three : (a b : A) → Three before Same a b

abbrev pub IsOrder : {A : Type 0} → (A → A → Bool) → Type 0
IsOrder before = IsOrderOf before (λ a b. a ≡ b)

-- where what is the same in one way is so in another
pub order_of : {A : Type 0} (before : A → A → Bool) (Same Alike : A → A → Type 0) → ((a b : A) → Same a b → Alike a b) → IsOrderOf before Same → IsOrderOf before Alike
order_of before Same Alike as_ order = record { itself = order.itself; through = order.through; three = λ a b. by a b (order.three a b) }
  where
    by : (a b : _) → Three before Same a b → Three before Alike a b
    by a b (inl first) = inl first
    by a b (inr (inl same)) = inr (inl (as_ a b same))
    by a b (inr (inr second)) = inr (inr second)

-- the order of a part
pub order_by : {A B : Type 0} (h : B → A) (before : A → A → Bool) → IsOrder before → IsOrderOf (λ x y. before (h x) (h y)) (λ x y. h x ≡ h y)
order_by h before order = record {
  itself = λ x. order.itself (h x);
  through = λ x y z. order.through (h x) (h y) (h z);
  three = λ x y. order.three (h x) (h y);
}

-- ---- by numbers

abbrev Either : ℕ → ℕ → Type 0
Either a b = (a < b) ⊎ ((a ≡ b) ⊎ (b < a))

either : (a b : ℕ) → Either a b
either a b = by (nat_lt a b) (nat_lt b a) refl refl
  where
    by : (t u : Bool) → nat_lt a b ≡ t → nat_lt b a ≡ u → Either a b
    by true u e f = inl (ltb-true a b e)
    by false true e f = inr (inr (ltb-true b a f))
    by false false e f = inr (inl (grind (arith, nat_tests)))

pub order_by_number : {A : Type 0} (number : A → ℕ) → IsOrderOf (λ a b. nat_lt (number a) (number b)) (λ a b. number a ≡ number b)
order_by_number number = record {
  itself = λ a. λ h. let less : number a < number a = ltb-true (number a) (number a) h in omega arith;
  through = λ a b c. λ h i.
      let first : number a < number b = ltb-true (number a) (number b) h in
      let second : number b < number c = ltb-true (number b) (number c) i in lt-ltb (number a) (number c) (omega arith);
  three = λ a b. elim (either (number a) (number b)) [
    | inl less ↦ inl (lt-ltb (number a) (number b) less)
    | inr more ↦ elim more [ inl same ↦ inr (inl same) | inr less ↦ inr (inr (lt-ltb (number b) (number a) less)) ]
  ];
}

abbrev before_by : {A : Type 0} → (A → ℕ) → (A → A → Bool) → A → A → Bool
before_by number before a b = nat_lt (number a) (number b) || ((number a == number b) && before a b)

abbrev Sooner : {A : Type 0} → (A → ℕ) → (A → A → Bool) → A → A → Type 0
Sooner number before a b = (number a < number b) ⊎ ((number a ≡ number b) × (before a b ≡ true))

tells : {A : Type 0} (number : A → ℕ) (before : A → A → Bool) (a b : A) → before_by number before a b ≡ true → Sooner number before a b
tells number before a b h = elim (or_cases (nat_lt (number a) (number b)) ((number a == number b) && before a b) h) [
  | inl less ↦ inl (ltb-true (number a) (number b) less)
  | inr more ↦ let parts : ((number a == number b) ≡ true) × (before a b ≡ true) = and_parts (number a == number b) (before a b) more in inr (eqb-true (number a) (number b) parts.0, parts.1)
]

told : {A : Type 0} (number : A → ℕ) (before : A → A → Bool) (a b : A) → Sooner number before a b → before_by number before a b ≡ true
told number before a b (inl less) = rw (lt-ltb (number a) (number b) less) refl
told number before a b (inr same) = rw (eq-eqb (number a) (number b) same.0, same.1) (or_true (nat_lt (number a) (number b)))
  where
    or_true : (c : Bool) → (c || true) ≡ true
    or_true true = refl
    or_true false = refl

-- by a number, and where that is one by another order
pub order_by_number_then : {A : Type 0} (number : A → ℕ) (before : A → A → Bool) (Same : A → A → Type 0) → IsOrderOf before Same →
    IsOrderOf (before_by number before) (λ a b. (number a ≡ number b) × Same a b)
order_by_number_then number before Same order = record {
  itself = λ a h. alone a (tells number before a a h);
  through = λ a b c h i. told number before a c (follows a b c (tells number before a b h) (tells number before b c i));
  three = λ a b. by a b (either (number a) (number b));
}
  where
    alone : (a : _) → Sooner number before a a → ⊥
    alone a (inl less) = omega arith
    alone a (inr same) = order.itself a same.1

    follows : (a b c : _) → Sooner number before a b → Sooner number before b c → Sooner number before a c
    follows a b c (inl x) (inl y) = inl (omega arith)
    follows a b c (inl x) (inr y) = let e : number b ≡ number c = y.0 in inl (omega arith)
    follows a b c (inr x) (inl y) = let e : number a ≡ number b = x.0 in inl (omega arith)
    follows a b c (inr x) (inr y) = inr (x.0 ∙ y.0, order.through a b c x.1 y.1)

    then_by : (a b : _) → number a ≡ number b → Three before Same a b → Three (before_by number before) (λ x y. (number x ≡ number y) × Same x y) a b
    then_by a b e (inl first) = inl (told number before a b (inr (e, first)))
    then_by a b e (inr (inl same)) = inr (inl (e, same))
    then_by a b e (inr (inr second)) = inr (inr (told number before b a (inr (sym e, second))))

    by : (a b : _) → Either (number a) (number b) → Three (before_by number before) (λ x y. (number x ≡ number y) × Same x y) a b
    by a b (inl less) = inl (told number before a b (inl less))
    by a b (inr (inl same)) = then_by a b same (order.three a b)
    by a b (inr (inr more)) = inr (inr (told number before b a (inl more)))

-- ---- spots: by token and rule

pub spot_order : IsOrder comes_before
spot_order =
    order_of comes_before (λ a b. (a.token ≡ b.token) × (rule_number a.rule ≡ rule_number b.rule)) (λ a b. a ≡ b)
    (λ a b same.
    ap (λ (t : ℕ). let s : Spot = record { token = t; rule = a.rule } in s) same.0
    ∙ ap (λ (r : Rule). let s : Spot = record { token = b.token; rule = r } in s) (one_rule a.rule b.rule same.1))
    (order_by_number_then (λ s. s.token) (λ a b. nat_lt (rule_number a.rule) (rule_number b.rule)) (λ a b. rule_number a.rule ≡ rule_number b.rule) (order_by_number (λ s. rule_number s.rule)))

-- ---- the first by an order

abbrev chosen : {A : Type 0} → Bool → A → A → Option A
chosen b x y = elim b [ true ↦ Some x | false ↦ Some y ]

-- none of three comes before the first, if the second and the third come before none before them
past : {A : Type 0} (before : A → A → Bool) → IsOrder before → (a b c : A) → before b a ≡ false → before c b ≡ false → before c a ≡ false
past before order a b c h i = false_from_ne_true (before c a) (λ first. by first (order.three c b))
  where
    by : before c a ≡ true → Three before (λ x y. x ≡ y) c b → ⊥
    by first (inl sooner) = both_ways (before c b) i sooner
    by first (inr (inl same)) = both_ways (before b a) h (ap (λ x. before x a) (sym same) ∙ first)
    by first (inr (inr later)) = both_ways (before b a) h (order.through b c a later first)

sooner_assoc : {A : Type 0} (before : A → A → Bool) → IsOrder before → (o p q : Option A) → sooner_by before (sooner_by before o p) q ≡ sooner_by before o (sooner_by before p q)
sooner_assoc before order None p q = refl
sooner_assoc before order (Some a) None q = refl
sooner_assoc before order (Some a) (Some b) None = last (before b a)
  where
    last : (t : Bool) → sooner_by before (chosen t b a) None ≡ chosen t b a
    last true = refl
    last false = refl
sooner_assoc before order (Some a) (Some b) (Some c) = by (before b a) (before c b) refl refl
  where
    by : (t u : Bool) → before b a ≡ t → before c b ≡ u → sooner_by before (chosen t b a) (Some c) ≡ sooner_by before (Some a) (chosen u c b)
    by true true e f = ap (λ w. chosen w c b) f ∙ sym (ap (λ w. chosen w c a) (order.through c b a f e))
    by true false e f = ap (λ w. chosen w c b) f ∙ sym (ap (λ w. chosen w b a) e)
    by false true e f = refl
    by false false e f = ap (λ w. chosen w c a) (past before order a b c e f) ∙ sym (ap (λ w. chosen w b a) e)

sooner_swapped : {A : Type 0} (before : A → A → Bool) → IsOrder before → (o p : Option A) → sooner_by before o p ≡ sooner_by before p o
sooner_swapped before order None None = refl
sooner_swapped before order None (Some b) = refl
sooner_swapped before order (Some a) None = refl
sooner_swapped before order (Some a) (Some b) = by (order.three a b)
  where
    by : Three before (λ x y. x ≡ y) a b → chosen (before b a) b a ≡ chosen (before a b) a b
    by (inl first) = ap (λ w. chosen w b a) (false_from_ne_true (before b a) (λ second. order.itself a (order.through a b a first second))) ∙ sym (ap (λ w. chosen w a b) first)
    by (inr (inl same)) = ap (λ x. chosen (before x a) x a) (sym same) ∙ ap (λ x. chosen (before a x) a x) same
    by (inr (inr second)) = ap (λ w. chosen w b a) second ∙ sym (ap (λ w. chosen w a b) (false_from_ne_true (before a b) (λ first. order.itself a (order.through a b a first second))))

-- what is first of more is named of what was first and what is first of that
pub first_apart : {A : Type 0} (before : A → A → Bool) → IsOrder before → (best : Option A) (xs : List A) → first_by before best xs ≡ sooner_by before best (first_by before None xs)
first_apart before order None [] = refl
first_apart before order (Some a) [] = refl
first_apart before order best (x ∷ xs) =
    first_apart before order (sooner_by before best (Some x)) xs ∙ sooner_assoc before order best (Some x) (first_by before None xs)
    ∙ ap (sooner_by before best) (sym (first_apart before order (Some x) xs))

pub first_joined : {A : Type 0} (before : A → A → Bool) → IsOrder before → (xs ys : List A) →
    first_by before None (xs ++ ys) ≡ sooner_by before (first_by before None xs) (first_by before None ys)
first_joined before order xs ys = first_by_append before None xs ys ∙ first_apart before order (first_by before None xs) ys

-- the two in the middle of four change places
pub middle_swapped : {A : Type 0} (before : A → A → Bool) → IsOrder before → (o p q r : Option A) →
    sooner_by before (sooner_by before o p) (sooner_by before q r) ≡ sooner_by before (sooner_by before o q) (sooner_by before p r)
middle_swapped before order o p q r =
    let join : Option _ → Option _ → Option _ = sooner_by before in
    sooner_assoc before order o p (join q r)
    ∙ ap (join o) (sym (sooner_assoc before order p q r) ∙ ap (λ m. join m r) (sooner_swapped before order p q) ∙ sooner_assoc before order q p r)
    ∙ sym (sooner_assoc before order o q (join p r))

-- what is listed first does not matter
pub first_swapped : {A : Type 0} (before : A → A → Bool) → IsOrder before → (best : Option A) (xs ys : List A) → first_by before best (xs ++ ys) ≡ first_by before best (ys ++ xs)
first_swapped before order best xs ys =
    let first : List _ → Option _ = first_by before None in
    first_apart before order best (xs ++ ys)
    ∙ ap (sooner_by before best) (first_joined before order xs ys ∙ sooner_swapped before order (first xs) (first ys) ∙ sym (first_joined before order ys xs))
    ∙ sym (first_apart before order best (ys ++ xs))

-- of each item some and others, or some of all and then the others of all
pub first_of_each : {A B : Type 0} (before : A → A → Bool) → IsOrder before → (f g : B → List A) (best : Option A) (xs : List B) →
    first_by before best (flat_map f xs ++ flat_map g xs) ≡ first_by before best (flat_map (λ x. f x ++ g x) xs)
first_of_each before order f g best xs =
    first_apart before order best (flat_map f xs ++ flat_map g xs) ∙ ap (sooner_by before best) (each xs) ∙ sym (first_apart before order best (flat_map (λ x. f x ++ g x) xs))
  where
    each : (ys : _) → first_by before None (flat_map f ys ++ flat_map g ys) ≡ first_by before None (flat_map (λ x. f x ++ g x) ys)
    each [] = refl
    each (y ∷ ys) =
        let first : List _ → Option _ = first_by before None in
        let join : Option _ → Option _ → Option _ = sooner_by before in
        first_joined before order (f y ++ flat_map f ys) (g y ++ flat_map g ys)
        ∙ ap (λ o. join o (first (g y ++ flat_map g ys))) (first_joined before order (f y) (flat_map f ys))
        ∙ ap (join (join (first (f y)) (first (flat_map f ys)))) (first_joined before order (g y) (flat_map g ys))
        ∙ middle_swapped before order (first (f y)) (first (flat_map f ys)) (first (g y)) (first (flat_map g ys))
        ∙ sym (ap (join (join (first (f y)) (first (g y)))) (first_joined before order (flat_map f ys) (flat_map g ys)))
        ∙ sym (ap (λ o. join o (first (flat_map f ys ++ flat_map g ys))) (first_joined before order (f y) (g y)))
        ∙ ap (join (first (f y ++ g y))) (each ys)
        ∙ sym (first_joined before order (f y ++ g y) (flat_map (λ x. f x ++ g x) ys))
