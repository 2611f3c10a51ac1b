-- A list without one of its nodes: what stood before it stands before what stood behind it.
use Rattle.std.proofs.Common.{◌≡◌, ◌≢◌, inl, inr, ℕ, true, false, List, [], ◌∷◌, Option, Some, None, refl, sym, ◌∙◌, ap}
use Rattle.std.proofs.lemmas.Bool.{cases_eq}
use Rattle.std.proofs.lemmas.Option.{same_Some}
use Rattle.cmm_ilist.specs.NodeLists.{after_in, front_of, has, is_distinct, without}
use Rattle.cmm_ilist.specs.inside.Linked.{back_of, before_in}
use Rattle.cmm_ilist.proofs.Elements.{after_here, after_is_in, after_skip, apart, before_here, before_is_in, before_skip, before_some, distinct_first, distinct_rest, has_skip, lacks_first, lacks_rest, no_some, without_first, without_skip}

-- the one before it leads to the one behind it
pub after_around : (front : Option ℕ) (x y : ℕ) (xs : List ℕ) → is_distinct xs ≡ true → front ≢ Some y → before_in front x xs ≡ Some y →
    after_in y (without x xs) ≡ after_in x xs
after_around front x y [] h none is = absurd (no_some is)
after_around front x y (h ∷ t) distinct none is = elim (cases_eq h x) [
  | inl same ↦ absurd (none (sym (ap (λ (n : ℕ). before_in front x (n ∷ t)) same ∙ before_here front x t) ∙ is))
  | inr other ↦ let before : before_in (Some h) x t ≡ Some y = sym (before_skip front x h t other) ∙ is in
      ap (after_in y) (without_skip x h t other) ∙ (elim (cases_eq h y) [
        | inl here ↦
            ap (λ (n : ℕ). after_in y (n ∷ without x t)) here ∙ (after_here y (without x t)
            ∙ (next t (distinct_rest h t distinct) (ap (λ n. has n t) (sym here) ∙ distinct_first h t distinct) (ap (λ n. before_in (Some n) x t) (sym here) ∙ before)
            ∙ sym (after_skip x h t other)))
        | inr apart_ ↦
            after_skip y h (without x t) apart_
            ∙ (after_around (Some h) x y t (distinct_rest h t distinct) (λ e. apart_ (same_Some h y e)) before ∙ sym (after_skip x h t other))
      ])
]
  where
    next : (t : List ℕ) → is_distinct t ≡ true → has y t ≡ false → before_in (Some y) x t ≡ Some y → front_of (without x t) ≡ after_in x t
    next [] distinct lacks before = absurd (no_some before)
    next (g ∷ t) distinct lacks before = elim (cases_eq g x) [
      | inl same ↦
          ap front_of (ap (λ (n : ℕ). without x (n ∷ t)) same ∙ without_first x t (ap (λ (n : ℕ). is_distinct (n ∷ t)) (sym same) ∙ distinct))
          ∙ sym (ap (λ (n : ℕ). after_in x (n ∷ t)) same ∙ after_here x t)
      | inr other ↦ elim (before_is_in (Some g) x y t (sym (before_skip (Some y) x g t other) ∙ before)) [
        | inl first ↦ absurd (lacks_first y g t lacks (same_Some g y first))
        | inr later ↦ absurd (cc (lacks_rest y g t lacks, later))
      ]
    ]

-- and all others to what they led to
pub after_others : (front : Option ℕ) (x y : ℕ) (xs : List ℕ) → is_distinct xs ≡ true → y ≢ x → before_in front x xs ≢ Some y →
    after_in y (without x xs) ≡ after_in y xs
after_others front x y [] distinct other none = refl
after_others front x y (h ∷ t) distinct other none = elim (cases_eq h x) [
  | inl same ↦
      ap (after_in y) (ap (λ (n : ℕ). without x (n ∷ t)) same ∙ without_first x t (ap (λ (n : ℕ). is_distinct (n ∷ t)) (sym same) ∙ distinct))
      ∙ sym (after_skip y h t (λ e. other (sym e ∙ same)))
  | inr apart_ ↦ let still : before_in (Some h) x t ≢ Some y = λ e. none (before_skip front x h t apart_ ∙ e) in
      ap (after_in y) (without_skip x h t apart_) ∙ (elim (cases_eq h y) [
        | inl here ↦
            ap (λ (n : ℕ). after_in y (n ∷ without x t)) here ∙ (after_here y (without x t)
            ∙ (next t (λ e. still (ap (λ n. before_in (Some n) x t) here ∙ e)) ∙ sym (ap (λ (n : ℕ). after_in y (n ∷ t)) here ∙ after_here y t)))
        | inr away ↦
            after_skip y h (without x t) away
            ∙ (after_others (Some h) x y t (distinct_rest h t distinct) other still ∙ sym (after_skip y h t away))
      ])
]
  where
    next : (t : List ℕ) → before_in (Some y) x t ≢ Some y → front_of (without x t) ≡ front_of t
    next [] none = refl
    next (g ∷ t) none = elim (cases_eq g x) [
      | inl same ↦ absurd (none (ap (λ (n : ℕ). before_in (Some y) x (n ∷ t)) same ∙ before_here (Some y) x t))
      | inr other ↦ ap front_of (without_skip x g t other)
    ]

-- the one behind it has before it what stood before it
pub before_around : (front : Option ℕ) (x y : ℕ) (xs : List ℕ) → is_distinct xs ≡ true → after_in x xs ≡ Some y →
    before_in front y (without x xs) ≡ before_in front x xs
before_around front x y [] distinct is = absurd (no_some is)
before_around front x y (h ∷ t) distinct is = elim (cases_eq h x) [
  | inl same ↦
      ap (before_in front y) (ap (λ (n : ℕ). without x (n ∷ t)) same ∙ without_first x t (ap (λ (n : ℕ). is_distinct (n ∷ t)) (sym same) ∙ distinct))
      ∙ (first t (sym (ap (λ (n : ℕ). after_in x (n ∷ t)) same ∙ after_here x t) ∙ is) ∙ sym (ap (λ (n : ℕ). before_in front x (n ∷ t)) same ∙ before_here front x t))
  | inr other ↦ let behind : after_in x t ≡ Some y = sym (after_skip x h t other) ∙ is in
      let away : h ≢ y = apart h y t (distinct_first h t distinct) (after_is_in x y t behind) in
      ap (before_in front y) (without_skip x h t other) ∙ (before_skip front y h (without x t) away
      ∙ (before_around (Some h) x y t (distinct_rest h t distinct) behind ∙ sym (before_skip front x h t other)))
]
  where
    first : (t : List ℕ) → front_of t ≡ Some y → before_in front y t ≡ front
    first [] is = absurd (no_some is)
    first (g ∷ t) is = ap (λ (n : ℕ). before_in front y (n ∷ t)) (same_Some g y is) ∙ before_here front y t

pub before_others : (front : Option ℕ) (x y : ℕ) (xs : List ℕ) → is_distinct xs ≡ true → y ≢ x → after_in x xs ≢ Some y →
    before_in front y (without x xs) ≡ before_in front y xs
before_others front x y [] distinct other none = refl
before_others front x y (h ∷ t) distinct other none = elim (cases_eq h x) [
  | inl same ↦
      ap (before_in front y) (ap (λ (n : ℕ). without x (n ∷ t)) same ∙ without_first x t (ap (λ (n : ℕ). is_distinct (n ∷ t)) (sym same) ∙ distinct))
      ∙ (first t (λ e. none (ap (λ (n : ℕ). after_in x (n ∷ t)) same ∙ (after_here x t ∙ e))) ∙ sym (before_skip front y h t (λ e. other (sym e ∙ same))))
  | inr apart_ ↦ ap (before_in front y) (without_skip x h t apart_) ∙ (elim (cases_eq h y) [
    | inl here ↦ ap (λ (n : ℕ). before_in front y (n ∷ without x t)) here ∙ (before_here front y (without x t)
        ∙ sym (ap (λ (n : ℕ). before_in front y (n ∷ t)) here ∙ before_here front y t))
    | inr away ↦ before_skip front y h (without x t) away ∙ (before_others (Some h) x y t (distinct_rest h t distinct) other (λ e. none (after_skip x h t apart_ ∙ e))
        ∙ sym (before_skip front y h t away))
  ])
]
  where
    first : (t : List ℕ) → front_of t ≢ Some y → before_in front y t ≡ before_in (Some h) y t
    first [] none = refl
    first (g ∷ t) none = let away : g ≢ y = λ e. none (ap Some e) in before_skip front y g t away ∙ sym (before_skip (Some h) y g t away)

-- ---- the ends

pub front_without_first : (x : ℕ) (xs : List ℕ) → is_distinct xs ≡ true → has x xs ≡ true → before_in None x xs ≡ None → front_of (without x xs) ≡ after_in x xs
front_without_first x [] distinct there is = refl
front_without_first x (h ∷ t) distinct there is = elim (cases_eq h x) [
  | inl same ↦
      ap front_of (ap (λ (n : ℕ). without x (n ∷ t)) same ∙ without_first x t (ap (λ (n : ℕ). is_distinct (n ∷ t)) (sym same) ∙ distinct))
      ∙ sym (ap (λ (n : ℕ). after_in x (n ∷ t)) same ∙ after_here x t)
  | inr other ↦ absurd (before_some h x t (sym (has_skip x h t other) ∙ there) (sym (before_skip None x h t other) ∙ is))
]

pub front_without_later : (x p : ℕ) (xs : List ℕ) → before_in None x xs ≡ Some p → front_of (without x xs) ≡ front_of xs
front_without_later x p [] is = refl
front_without_later x p (h ∷ t) is = elim (cases_eq h x) [
  | inl same ↦ absurd (no_some (sym (ap (λ (n : ℕ). before_in None x (n ∷ t)) same ∙ before_here None x t) ∙ is))
  | inr other ↦ ap front_of (without_skip x h t other)
]

pub back_without_last : (front : Option ℕ) (x : ℕ) (xs : List ℕ) → is_distinct xs ≡ true → has x xs ≡ true → after_in x xs ≡ None →
    back_of front (without x xs) ≡ before_in front x xs
back_without_last front x [] distinct there is = cc (there)
back_without_last front x (h ∷ t) distinct there is = elim (cases_eq h x) [
  | inl same ↦
      ap (back_of front) (ap (λ (n : ℕ). without x (n ∷ t)) same ∙ without_first x t (ap (λ (n : ℕ). is_distinct (n ∷ t)) (sym same) ∙ distinct))
      ∙ (none t (sym (ap (λ (n : ℕ). after_in x (n ∷ t)) same ∙ after_here x t) ∙ is) ∙ sym (ap (λ (n : ℕ). before_in front x (n ∷ t)) same ∙ before_here front x t))
  | inr other ↦ ap (back_of front) (without_skip x h t other)
      ∙ (back_without_last (Some h) x t (distinct_rest h t distinct) (sym (has_skip x h t other) ∙ there) (sym (after_skip x h t other) ∙ is)
      ∙ sym (before_skip front x h t other))
]
  where
    none : (t : List ℕ) → front_of t ≡ None → back_of front t ≡ front
    none [] is = refl
    none (g ∷ t) is = cc (is)

pub back_without_earlier : (front : Option ℕ) (x s : ℕ) (xs : List ℕ) → is_distinct xs ≡ true → after_in x xs ≡ Some s → back_of front (without x xs) ≡ back_of front xs
back_without_earlier front x s [] distinct is = refl
back_without_earlier front x s (h ∷ t) distinct is = elim (cases_eq h x) [
  | inl same ↦
      ap (back_of front) (ap (λ (n : ℕ). without x (n ∷ t)) same ∙ without_first x t (ap (λ (n : ℕ). is_distinct (n ∷ t)) (sym same) ∙ distinct))
      ∙ some t (sym (ap (λ (n : ℕ). after_in x (n ∷ t)) same ∙ after_here x t) ∙ is)
  | inr other ↦ ap (back_of front) (without_skip x h t other) ∙ back_without_earlier (Some h) x s t (distinct_rest h t distinct) (sym (after_skip x h t other) ∙ is)
]
  where
    some : (t : List ℕ) → front_of t ≡ Some s → back_of front t ≡ back_of (Some h) t
    some [] is = absurd (no_some is)
    some (g ∷ t) is = refl
