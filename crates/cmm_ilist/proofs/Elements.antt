-- Nodes in lists, and what stands before and behind them.
use Rattle.std.proofs.Common.{◌≡◌, ◌≢◌, ◌⊎◌, inl, inr, ℕ, zero, suc, ◌==◌, ◌&&◌, ◌||◌, not, cond, Bool, true, false, filter, get_or, replicate, List, [], ◌∷◌, Option, Some, None, refl, sym, ◌∙◌, ap}
use Rattle.std.proofs.lemmas.Bool.{and_parts, cases_Bool, cases_eq, eq-eqb, eqb-true, ne_eqb, or_cases}
use Rattle.std.proofs.lemmas.Option.{same_Some}
use Rattle.cmm_ilist.specs.NodeLists.{after_in, front_of, has, is_distinct, without}
use Rattle.cmm_ilist.specs.inside.Linked.{back_of, before_in}

-- ---- one step of each

pub no_some : {x : ℕ} → None ≡ Some x → ⊥
no_some e = cc (e)

-- a list of one thing over and over has it everywhere, where that is the default too
pub replicate_at : {A : Type 0} (a : A) (n k : ℕ) → get_or (replicate n a) k a ≡ a
replicate_at a zero k = refl
replicate_at a (suc n) zero = refl
replicate_at a (suc n) (suc k) = replicate_at a n k

pub has_here : (x : ℕ) (ys : List ℕ) → has x (x ∷ ys) ≡ true
has_here x ys = ap (λ b. b || has x ys) (eq-eqb x x refl)

pub has_skip : (x y : ℕ) (ys : List ℕ) → y ≢ x → has x (y ∷ ys) ≡ has x ys
has_skip x y ys other = ap (λ b. b || has x ys) (ne_eqb y x other)

pub has_later : (x y : ℕ) (ys : List ℕ) → has x ys ≡ true → has x (y ∷ ys) ≡ true
has_later x y ys h = by (y == x)
  where
    by : (b : Bool) → (b || has x ys) ≡ true
    by true = refl
    by false = h

pub has_split : (x y : ℕ) (ys : List ℕ) → has x (y ∷ ys) ≡ true → (y ≡ x) ⊎ (has x ys ≡ true)
has_split x y ys h = elim (or_cases (y == x) (has x ys) h) [
  | inl same ↦ inl (eqb-true y x same)
  | inr later ↦ inr later
]

pub lacks_first : (x y : ℕ) (ys : List ℕ) → has x (y ∷ ys) ≡ false → y ≢ x
lacks_first x y ys lacks same =
    let there : has x (y ∷ ys) ≡ true = ap (λ (n : ℕ). has x (n ∷ ys)) same ∙ has_here x ys in absurd (cc (lacks, there))

pub lacks_rest : (x y : ℕ) (ys : List ℕ) → has x (y ∷ ys) ≡ false → has x ys ≡ false
lacks_rest x y ys lacks = sym (has_skip x y ys (lacks_first x y ys lacks)) ∙ lacks

pub after_here : (x : ℕ) (ys : List ℕ) → after_in x (x ∷ ys) ≡ front_of ys
after_here x ys = ap (λ b. elim b as (λ _. Option ℕ) [ true ↦ front_of ys | false ↦ after_in x ys ]) (eq-eqb x x refl)

pub after_skip : (x y : ℕ) (ys : List ℕ) → y ≢ x → after_in x (y ∷ ys) ≡ after_in x ys
after_skip x y ys other = ap (λ b. elim b as (λ _. Option ℕ) [ true ↦ front_of ys | false ↦ after_in x ys ]) (ne_eqb y x other)

pub before_here : (front : Option ℕ) (x : ℕ) (ys : List ℕ) → before_in front x (x ∷ ys) ≡ front
before_here front x ys = ap (λ b. elim b as (λ _. Option ℕ) [ true ↦ front | false ↦ before_in (Some x) x ys ]) (eq-eqb x x refl)

pub before_skip : (front : Option ℕ) (x y : ℕ) (ys : List ℕ) → y ≢ x → before_in front x (y ∷ ys) ≡ before_in (Some y) x ys
before_skip front x y ys other = ap (λ b. elim b as (λ _. Option ℕ) [ true ↦ front | false ↦ before_in (Some y) x ys ]) (ne_eqb y x other)

-- ---- distinct nodes

pub distinct_first : (x : ℕ) (xs : List ℕ) → is_distinct (x ∷ xs) ≡ true → has x xs ≡ false
distinct_first x xs h = by (has x xs) (and_parts (not (has x xs)) (is_distinct xs) h).0
  where
    by : (b : Bool) → not b ≡ true → b ≡ false
    by true e = cc (e)
    by false e = refl

pub distinct_rest : (x : ℕ) (xs : List ℕ) → is_distinct (x ∷ xs) ≡ true → is_distinct xs ≡ true
distinct_rest x xs h = (and_parts (not (has x xs)) (is_distinct xs) h).1

pub distinct_with : (x : ℕ) (xs : List ℕ) → has x xs ≡ false → is_distinct xs ≡ true → is_distinct (x ∷ xs) ≡ true
distinct_with x xs lacks h = ap (λ b. not b && is_distinct xs) lacks ∙ h

pub apart : (x y : ℕ) (xs : List ℕ) → has x xs ≡ false → has y xs ≡ true → x ≢ y
apart x y xs lacks there same = let h : has x xs ≡ true = ap (λ n. has n xs) same ∙ there in absurd (cc (lacks, h))

-- what does not hold is false
pub lacks_of : (b : Bool) → (b ≡ true → ⊥) → b ≡ false
lacks_of true none = absurd (none refl)
lacks_of false none = refl

-- ---- the nodes that pass a test

pub filter_keeps : (p : ℕ → Bool) (x : ℕ) (xs : List ℕ) → p x ≡ true → filter p (x ∷ xs) ≡ x ∷ filter p xs
filter_keeps p x xs is = ap (λ b. cond b (x ∷ filter p xs) (filter p xs)) is

pub filter_drops : (p : ℕ → Bool) (x : ℕ) (xs : List ℕ) → p x ≡ false → filter p (x ∷ xs) ≡ filter p xs
filter_drops p x xs is = ap (λ b. cond b (x ∷ filter p xs) (filter p xs)) is

pub kept_is : (p : ℕ → Bool) (z : ℕ) (xs : List ℕ) → has z (filter p xs) ≡ true → (has z xs ≡ true) × (p z ≡ true)
kept_is p z [] is = absurd (cc (is))
kept_is p z (x ∷ xs) is = by (cases_Bool (p x)) (λ in_rest. (let both = kept_is p z xs in_rest in (has_later z x xs both.0, both.1)))
  where
    by : ((p x ≡ true) ⊎ (p x ≡ false)) → (has z (filter p xs) ≡ true → (has z (x ∷ xs) ≡ true) × (p z ≡ true)) → (has z (x ∷ xs) ≡ true) × (p z ≡ true)
    by (inl kept) later = elim (has_split z x (filter p xs) (sym (ap (has z) (filter_keeps p x xs kept)) ∙ is)) [
      | inl same ↦ (ap (λ (n : ℕ). has z (n ∷ xs)) same ∙ has_here z xs, ap p (sym same) ∙ kept)
      | inr rest ↦ later rest
    ]
    by (inr gone) later = later (sym (ap (has z) (filter_drops p x xs gone)) ∙ is)

pub is_kept : (p : ℕ → Bool) (z : ℕ) (xs : List ℕ) → has z xs ≡ true → p z ≡ true → has z (filter p xs) ≡ true
is_kept p z [] is pass = cc (is)
is_kept p z (x ∷ xs) is pass = elim (has_split z x xs is) [
  | inl same ↦ ap (has z) (filter_keeps p x xs (ap p same ∙ pass)) ∙ (ap (λ (n : ℕ). has z (n ∷ filter p xs)) same ∙ has_here z (filter p xs))
  | inr rest ↦ elim (cases_Bool (p x)) [
    | inl kept ↦ ap (has z) (filter_keeps p x xs kept) ∙ has_later z x (filter p xs) (is_kept p z xs rest pass)
    | inr gone ↦ ap (has z) (filter_drops p x xs gone) ∙ is_kept p z xs rest pass
  ]
]

pub filter_distinct : (p : ℕ → Bool) (xs : List ℕ) → is_distinct xs ≡ true → is_distinct (filter p xs) ≡ true
filter_distinct p [] distinct = refl
filter_distinct p (x ∷ xs) distinct = elim (cases_Bool (p x)) [
  | inl kept ↦ ap is_distinct (filter_keeps p x xs kept) ∙ distinct_with x (filter p xs)
      (lacks_of (has x (filter p xs)) (λ is. (let was = (kept_is p x xs is).0 in cc (was, distinct_first x xs distinct)))) (filter_distinct p xs (distinct_rest x xs distinct))
  | inr gone ↦ ap is_distinct (filter_drops p x xs gone) ∙ filter_distinct p xs (distinct_rest x xs distinct)
]

-- ---- what is left without a node

pub without_here : (x : ℕ) (ys : List ℕ) → without x (x ∷ ys) ≡ without x ys
without_here x ys = filter_drops (λ y. not (y == x)) x ys (ap not (eq-eqb x x refl))

pub without_skip : (x y : ℕ) (ys : List ℕ) → y ≢ x → without x (y ∷ ys) ≡ y ∷ without x ys
without_skip x y ys other = filter_keeps (λ z. not (z == x)) y ys (ap not (ne_eqb y x other))

pub without_absent : (x : ℕ) (xs : List ℕ) → has x xs ≡ false → without x xs ≡ xs
without_absent x [] lacks = refl
without_absent x (y ∷ ys) lacks =
    without_skip x y ys (lacks_first x y ys lacks) ∙ ap (λ zs. y ∷ zs) (without_absent x ys (lacks_rest x y ys lacks))

-- behind its node, where that is the only one
pub without_first : (x : ℕ) (ys : List ℕ) → is_distinct (x ∷ ys) ≡ true → without x (x ∷ ys) ≡ ys
without_first x ys h = without_here x ys ∙ without_absent x ys (distinct_first x ys h)

pub without_lacks : (x : ℕ) (xs : List ℕ) → has x (without x xs) ≡ false
without_lacks x [] = refl
without_lacks x (y ∷ ys) = elim (cases_eq y x) [
  | inl same ↦ ap (λ (n : ℕ). has x (without x (n ∷ ys))) same ∙ (ap (has x) (without_here x ys) ∙ without_lacks x ys)
  | inr other ↦ ap (has x) (without_skip x y ys other) ∙ (has_skip x y (without x ys) other ∙ without_lacks x ys)
]

pub without_has : (x z : ℕ) (xs : List ℕ) → z ≢ x → has z (without x xs) ≡ has z xs
without_has x z [] other = refl
without_has x z (y ∷ ys) other = elim (cases_eq y x) [
  | inl same ↦
      ap (has z) (ap (λ (n : ℕ). without x (n ∷ ys)) same ∙ without_here x ys)
      ∙ (without_has x z ys other ∙ sym (has_skip z y ys (λ e. other (sym e ∙ same))))
  | inr apart_ ↦ ap (has z) (without_skip x y ys apart_) ∙ ap (λ b. (y == z) || b) (without_has x z ys other)
]

-- a node that is left was there, and is another
pub left_was : (x z : ℕ) (xs : List ℕ) → has z (without x xs) ≡ true → (z ≢ x) × (has z xs ≡ true)
left_was x z xs there = by (cases_eq z x)
  where
    by : ((z ≡ x) ⊎ (z ≢ x)) → (z ≢ x) × (has z xs ≡ true)
    by (inl same) = let none : has z (without x xs) ≡ false = ap (λ n. has n (without x xs)) same ∙ without_lacks x xs in absurd (cc (none, there))
    by (inr other) = (other, sym (without_has x z xs other) ∙ there)

pub without_distinct : (x : ℕ) (xs : List ℕ) → is_distinct xs ≡ true → is_distinct (without x xs) ≡ true
without_distinct x xs h = filter_distinct (λ y. not (y == x)) xs h

-- ---- neighbours are in the list

pub front_is_in : (z : ℕ) (xs : List ℕ) → front_of xs ≡ Some z → has z xs ≡ true
front_is_in z [] is = absurd (no_some is)
front_is_in z (x ∷ xs) is = ap (λ n. has n (x ∷ xs)) (sym (same_Some x z is)) ∙ has_here x xs

pub after_is_in : (x z : ℕ) (xs : List ℕ) → after_in x xs ≡ Some z → has z xs ≡ true
after_is_in x z [] is = absurd (no_some is)
after_is_in x z (y ∷ ys) is = elim (cases_eq y x) [
  | inl same ↦ has_later z y ys (front_is_in z ys (sym (ap (λ (n : ℕ). after_in x (n ∷ ys)) same ∙ after_here x ys) ∙ is))
  | inr other ↦ has_later z y ys (after_is_in x z ys (sym (after_skip x y ys other) ∙ is))
]

pub before_is_in : (front : Option ℕ) (x z : ℕ) (xs : List ℕ) → before_in front x xs ≡ Some z → (front ≡ Some z) ⊎ (has z xs ≡ true)
before_is_in front x z [] is = absurd (no_some is)
before_is_in front x z (y ∷ ys) is = elim (cases_eq y x) [
  | inl same ↦ inl (sym (ap (λ (n : ℕ). before_in front x (n ∷ ys)) same ∙ before_here front x ys) ∙ is)
  | inr other ↦ inr (elim (before_is_in (Some y) x z ys (sym (before_skip front x y ys other) ∙ is)) [
    | inl first ↦ ap (λ n. has n (y ∷ ys)) (sym (same_Some y z first)) ∙ has_here y ys
    | inr later ↦ has_later z y ys later
  ])
]

-- something stands before a node that is not the first
pub before_some : (p x : ℕ) (xs : List ℕ) → has x xs ≡ true → before_in (Some p) x xs ≢ None
before_some p x [] there is = cc (there)
before_some p x (y ∷ ys) there is = elim (cases_eq y x) [
  | inl same ↦ let e : Some p ≡ None = sym (ap (λ (n : ℕ). before_in (Some p) x (n ∷ ys)) same ∙ before_here (Some p) x ys) ∙ is in absurd (cc (e))
  | inr other ↦ before_some y x ys (sym (has_skip x y ys other) ∙ there) (sym (before_skip (Some p) x y ys other) ∙ is)
]

pub back_is_in : (p z : ℕ) (xs : List ℕ) → back_of (Some p) xs ≡ Some z → has z (p ∷ xs) ≡ true
back_is_in p z [] is = ap (λ n. has n (p ∷ [])) (sym (same_Some p z is)) ∙ has_here p []
back_is_in p z (x ∷ xs) is = has_later z p (x ∷ xs) (back_is_in x z xs is)

pub back_some : (p : ℕ) (xs : List ℕ) → back_of (Some p) xs ≢ None
back_some p [] is = cc (is)
back_some p (x ∷ xs) is = back_some x xs is
