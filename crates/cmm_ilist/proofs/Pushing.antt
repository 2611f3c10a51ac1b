-- A list with one node more at its end.
use Rattle.std.proofs.Common.{◌≡◌, ◌≢◌, ◌⊎◌, inl, inr, ℕ, true, false, List, [], ◌∷◌, ◌++◌, Option, Some, None, refl, sym, ◌∙◌, ap}
use Rattle.std.proofs.lemmas.Bool.{cases_eq}
use Rattle.cmm_ilist.specs.NodeLists.{after_in, front_of, has, is_distinct}
use Rattle.cmm_ilist.specs.inside.Linked.{back_of, before_in}
use Rattle.cmm_ilist.proofs.Elements.{after_here, after_skip, back_is_in, back_some, before_here, before_skip, distinct_first, distinct_rest, distinct_with, has_here, has_later, has_skip, has_split, lacks_first, lacks_rest, no_some}

pub has_end : (x : ℕ) (xs : List ℕ) → has x (xs ++ x ∷ []) ≡ true
has_end x [] = has_here x []
has_end x (y ∷ ys) = has_later x y (ys ++ x ∷ []) (has_end x ys)

pub has_still : (x z : ℕ) (xs : List ℕ) → has z xs ≡ true → has z (xs ++ x ∷ []) ≡ true
has_still x z [] there = cc (there)
has_still x z (y ∷ ys) there = elim (has_split z y ys there) [
  | inl same ↦ ap (λ (n : ℕ). has z (n ∷ (ys ++ x ∷ []))) same ∙ has_here z (ys ++ x ∷ [])
  | inr later ↦ has_later z y (ys ++ x ∷ []) (has_still x z ys later)
]

pub has_pushed : (x z : ℕ) (xs : List ℕ) → has z (xs ++ x ∷ []) ≡ true → (x ≡ z) ⊎ (has z xs ≡ true)
has_pushed x z [] there = elim (has_split z x [] there) [ inl same ↦ inl same | inr later ↦ cc (later) ]
has_pushed x z (y ∷ ys) there = elim (has_split z y (ys ++ x ∷ []) there) [
  | inl same ↦ inr (ap (λ (n : ℕ). has z (n ∷ ys)) same ∙ has_here z ys)
  | inr later ↦ elim (has_pushed x z ys later) [
    | inl new ↦ inl new
    | inr old ↦ inr (has_later z y ys old)
  ]
]

pub lacks_pushed : (x z : ℕ) (xs : List ℕ) → x ≢ z → has z xs ≡ false → has z (xs ++ x ∷ []) ≡ false
lacks_pushed x z [] other lacks = has_skip z x [] other
lacks_pushed x z (y ∷ ys) other lacks = has_skip z y (ys ++ x ∷ []) (lacks_first z y ys lacks) ∙ lacks_pushed x z ys other (lacks_rest z y ys lacks)

pub pushed_distinct : (x : ℕ) (xs : List ℕ) → has x xs ≡ false → is_distinct xs ≡ true → is_distinct (xs ++ x ∷ []) ≡ true
pushed_distinct x [] lacks distinct = refl
pushed_distinct x (y ∷ ys) lacks distinct =
    distinct_with y (ys ++ x ∷ []) (lacks_pushed x y ys (λ e. lacks_first x y ys lacks (sym e)) (distinct_first y ys distinct))
    (pushed_distinct x ys (lacks_rest x y ys lacks) (distinct_rest y ys distinct))

-- the last one leads to the new one
pub after_last : (front : Option ℕ) (x y : ℕ) (xs : List ℕ) → is_distinct xs ≡ true → has y xs ≡ true → back_of front xs ≡ Some y → after_in y (xs ++ x ∷ []) ≡ Some x
after_last front x y [] distinct there is = cc (there)
after_last front x y (h ∷ t) distinct there is = elim (cases_eq h y) [
  | inl here ↦
      ap (λ (n : ℕ). after_in y (n ∷ (t ++ x ∷ []))) here ∙ (after_here y (t ++ x ∷ []) ∙ ends t (ap (λ n. has n t) (sym here) ∙ distinct_first h t distinct)
      (ap (λ n. back_of (Some n) t) (sym here) ∙ is))
  | inr other ↦ after_skip y h (t ++ x ∷ []) other ∙ after_last (Some h) x y t (distinct_rest h t distinct) (sym (has_skip y h t other) ∙ there) is
]
  where
    ends : (t : List ℕ) → has y t ≡ false → back_of (Some y) t ≡ Some y → front_of (t ++ x ∷ []) ≡ Some x
    ends [] lacks is = refl
    ends (g ∷ t) lacks is = absurd (cc (lacks, back_is_in g y t is))

pub after_earlier : (front : Option ℕ) (x y : ℕ) (xs : List ℕ) → has y xs ≡ true → back_of front xs ≢ Some y → after_in y (xs ++ x ∷ []) ≡ after_in y xs
after_earlier front x y [] there none = cc (there)
after_earlier front x y (h ∷ t) there none = elim (cases_eq h y) [
  | inl here ↦
      ap (λ (n : ℕ). after_in y (n ∷ (t ++ x ∷ []))) here ∙ (after_here y (t ++ x ∷ []) ∙ (goes_on t (λ e. none (ap (λ n. back_of (Some n) t) here ∙ e))
      ∙ sym (ap (λ (n : ℕ). after_in y (n ∷ t)) here ∙ after_here y t)))
  | inr other ↦ after_skip y h (t ++ x ∷ []) other ∙ (after_earlier (Some h) x y t (sym (has_skip y h t other) ∙ there) none ∙ sym (after_skip y h t other))
]
  where
    goes_on : (t : List ℕ) → back_of (Some y) t ≢ Some y → front_of (t ++ x ∷ []) ≡ front_of t
    goes_on [] none = absurd (none refl)
    goes_on (g ∷ t) none = refl

pub after_new : (x : ℕ) (xs : List ℕ) → has x xs ≡ false → after_in x (xs ++ x ∷ []) ≡ None
after_new x [] lacks = after_here x []
after_new x (y ∷ ys) lacks = after_skip x y (ys ++ x ∷ []) (lacks_first x y ys lacks) ∙ after_new x ys (lacks_rest x y ys lacks)

pub before_new : (front : Option ℕ) (x : ℕ) (xs : List ℕ) → has x xs ≡ false → before_in front x (xs ++ x ∷ []) ≡ back_of front xs
before_new front x [] lacks = before_here front x []
before_new front x (y ∷ ys) lacks = before_skip front x y (ys ++ x ∷ []) (lacks_first x y ys lacks) ∙ before_new (Some y) x ys (lacks_rest x y ys lacks)

pub before_old : (front : Option ℕ) (x y : ℕ) (xs : List ℕ) → has y xs ≡ true → before_in front y (xs ++ x ∷ []) ≡ before_in front y xs
before_old front x y [] there = cc (there)
before_old front x y (h ∷ t) there = elim (cases_eq h y) [
  | inl here ↦ ap (λ (n : ℕ). before_in front y (n ∷ (t ++ x ∷ []))) here ∙ (before_here front y (t ++ x ∷ []) ∙ sym (ap (λ (n : ℕ). before_in front y (n ∷ t)) here ∙ before_here front y t))
  | inr other ↦ before_skip front y h (t ++ x ∷ []) other ∙ (before_old (Some h) x y t (sym (has_skip y h t other) ∙ there) ∙ sym (before_skip front y h t other))
]

pub front_of_one : (x : ℕ) (xs : List ℕ) → back_of None xs ≡ None → front_of (xs ++ x ∷ []) ≡ Some x
front_of_one x [] is = refl
front_of_one x (h ∷ t) is = absurd (back_some h t is)

pub front_of_more : (x p : ℕ) (xs : List ℕ) → back_of None xs ≡ Some p → front_of (xs ++ x ∷ []) ≡ front_of xs
front_of_more x p [] is = absurd (no_some is)
front_of_more x p (h ∷ t) is = refl

pub back_is_new : (front : Option ℕ) (x : ℕ) (xs : List ℕ) → back_of front (xs ++ x ∷ []) ≡ Some x
back_is_new front x [] = refl
back_is_new front x (h ∷ t) = back_is_new (Some h) x t

-- the last is in the list
pub back_is_there : (z : ℕ) (xs : List ℕ) → back_of None xs ≡ Some z → has z xs ≡ true
back_is_there z [] is = absurd (no_some is)
back_is_there z (h ∷ t) is = back_is_in h z t is
