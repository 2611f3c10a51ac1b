-- Nodes are put into the lists for their degrees.
use Rattle.std.proofs.Common.{◌≡◌, inl, inr, ℕ, ◌+◌, ◌<◌, ◌≤◌, ◌||◌, nat_lt, Bool, true, false, List, [], ◌∷◌, ◌++◌, length, set, replicate, refl, sym, ◌∙◌, ap, subst, arith}
use Rattle.std.proofs.lemmas.Bool.{cases_eq, cases_lt, ltb-false, ltb-true, or_cases}
use Rattle.std.proofs.lemmas.List.{get_or-set_other, get_or-set_same, length-set}
use Rattle.cmm_ilist.specs.NodeLists.{IsInNone, NodeLists, has, list_at}
use Rattle.cmm_colour.specs.inside.Removing.{AreSorted, degree_of, is_there, list_for}
use Rattle.cmm_colour.proofs.Counting.{has_last_other}
use Rattle.cmm_colour.proofs.Ordering.{high_is_there, low_is_there}
use Rattle.cmm_ilist.proofs.Shared.{has_end, lacks_of, replicate_at}

-- those before one are
pub record AreSortedTo (k : ℕ) (degrees : List ℕ) (i : ℕ) (l : NodeLists) : Type 0 where
  pub nodes : l.nodes ≡ length degrees
  pub lists : length l.lists ≡ 2
  pub within : (z n : ℕ) → has z (list_at l.lists n) ≡ true → z < i
  pub there : (z : ℕ) → z < i → is_there z l ≡ true
  pub low : (z : ℕ) → has z (list_at l.lists 0) ≡ true → degree_of degrees z < k
  pub high : (z : ℕ) → has z (list_at l.lists 1) ≡ true → k ≤ degree_of degrees z

pub sorted_start : (k : ℕ) (degrees : List ℕ) (n : ℕ) → n ≡ length degrees → AreSortedTo k degrees 0 (record { nodes = n; lists = replicate 2 [] })
sorted_start k degrees n is = record {
  nodes = is;
  lists = refl;
  within = λ z m there. (let none : has z (list_at (replicate 2 []) m) ≡ false = ap (has z) (replicate_at [] 2 m) in absurd (cc (none, there)));
  there = λ z low. absurd (omega (arith, low));
  low = λ z there. absurd (cc (there));
  high = λ z there. absurd (cc (there));
}

pub sorted_free : (k : ℕ) (degrees : List ℕ) (i : ℕ) (l : NodeLists) → AreSortedTo k degrees i l → IsInNone i l.lists
sorted_free k degrees i l sorted n = lacks_of (has i (list_at l.lists n)) (λ is. (let low : i < i = sorted.within i n is in omega (arith, low)))

list_of_low : (k d : ℕ) → d < k → list_for k d ≡ 0
list_of_low k d low = by (nat_lt d k) refl
  where
    by : (b : Bool) → nat_lt d k ≡ b → list_for k d ≡ 0
    by true is = ap (λ (b : Bool). elim b as (λ _. ℕ) [ true ↦ 0 | false ↦ 1 ]) is
    by false is = absurd (omega (arith, low, ltb-false d k is))

list_of_high : (k d : ℕ) → k ≤ d → list_for k d ≡ 1
list_of_high k d high = by (nat_lt d k) refl
  where
    by : (b : Bool) → nat_lt d k ≡ b → list_for k d ≡ 1
    by true is = absurd (omega (arith, high, ltb-true d k is))
    by false is = ap (λ (b : Bool). elim b as (λ _. ℕ) [ true ↦ 0 | false ↦ 1 ]) is

pub list_within : (k d : ℕ) → list_for k d < 2
list_within k d = elim (cases_lt d k) [
  | inl low ↦ omega (arith, list_of_low k d low)
  | inr high ↦ omega (arith, list_of_high k d high)
]

module _ (k : ℕ) (degrees : List ℕ) (i : ℕ) (l : NodeLists) (sorted : AreSortedTo k degrees i l) (low : i < length degrees) where
  abbrev at : ℕ
  at = list_for k (degree_of degrees i)

  abbrev pushed : List (List ℕ)
  pushed = set l.lists at (list_at l.lists at ++ i ∷ [])

  here : list_at pushed at ≡ list_at l.lists at ++ i ∷ []
  here = get_or-set_same l.lists at (list_at l.lists at ++ i ∷ []) [] (subst (λ n. at < n) (sym sorted.lists) (list_within k (degree_of degrees i)))

  away : (n : ℕ) → (n ≡ at → ⊥) → list_at pushed n ≡ list_at l.lists n
  away n other = get_or-set_other l.lists at n (list_at l.lists at ++ i ∷ []) [] other

  -- another node is where it was
  same : (z n : ℕ) → (i ≡ z → ⊥) → has z (list_at pushed n) ≡ has z (list_at l.lists n)
  same z n other = elim (cases_eq n at) [
    | inl is ↦ ap (λ m. has z (list_at pushed m)) is ∙ (ap (has z) here ∙ (has_last_other i z (list_at l.lists at) other ∙ sym (ap (λ m. has z (list_at l.lists m)) is)))
    | inr not_ ↦ ap (has z) (away n not_)
  ]

  -- it is in no other list
  only : (n : ℕ) → (n ≡ at → ⊥) → has i (list_at pushed n) ≡ false
  only n other = ap (has i) (away n other) ∙ sorted_free k degrees i l sorted n

  in_it : has i (list_at pushed at) ≡ true
  in_it = ap (has i) here ∙ has_end i (list_at l.lists at)

  here_there : is_there i (record { nodes = l.nodes; lists = pushed }) ≡ true
  here_there = elim (cases_lt (degree_of degrees i) k) [
    | inl small ↦ low_is_there i (record { nodes = l.nodes; lists = pushed }) (ap (λ m. has i (list_at pushed m)) (sym (list_of_low k (degree_of degrees i) small)) ∙ in_it)
    | inr big ↦ high_is_there i (record { nodes = l.nodes; lists = pushed }) (ap (λ m. has i (list_at pushed m)) (sym (list_of_high k (degree_of degrees i) big)) ∙ in_it)
  ]

  pub sorted_next : AreSortedTo k degrees (i + 1) (record { nodes = l.nodes; lists = pushed })
  sorted_next = record {
    nodes = sorted.nodes;
    lists = length-set l.lists at (list_at l.lists at ++ i ∷ []) ∙ sorted.lists;
    within = λ z n is. elim (cases_eq i z) [
      | inl e ↦ omega (arith, e)
      | inr other ↦ let was : z < i = sorted.within z n (sym (same z n other) ∙ is) in omega (arith, was)
    ];
    there = λ z below. elim (cases_eq i z) [
      | inl e ↦ ap (λ u. is_there u (record { nodes = l.nodes; lists = pushed })) (sym e) ∙ here_there
      | inr other ↦
          let was : z < i = omega (arith, below, other) in
          ap (λ b. b || has z (list_at pushed 1)) (same z 0 other) ∙ (ap (λ b. has z (list_at l.lists 0) || b) (same z 1 other) ∙ sorted.there z was)
    ];
    low = λ z is. elim (cases_eq i z) [
      | inl e ↦ elim (cases_lt (degree_of degrees i) k) [
        | inl small ↦ subst (λ u. degree_of degrees u < k) e small
        | inr big ↦
            let no : has i (list_at pushed 0) ≡ false = only 0 (λ z_. omega (arith, z_, list_of_high k (degree_of degrees i) big)) in
            let yes_ : has i (list_at pushed 0) ≡ true = ap (λ u. has u (list_at pushed 0)) e ∙ is in absurd (cc (no, yes_))
      ]
      | inr other ↦ sorted.low z (sym (same z 0 other) ∙ is)
    ];
    high = λ z is. elim (cases_eq i z) [
      | inl e ↦ elim (cases_lt (degree_of degrees i) k) [
        | inl small ↦
            let no : has i (list_at pushed 1) ≡ false = only 1 (λ z_. omega (arith, z_, list_of_low k (degree_of degrees i) small)) in
            let yes_ : has i (list_at pushed 1) ≡ true = ap (λ u. has u (list_at pushed 1)) e ∙ is in absurd (cc (no, yes_))
        | inr big ↦ subst (λ u. k ≤ degree_of degrees u) e big
      ]
      | inr other ↦ sorted.high z (sym (same z 1 other) ∙ is)
    ];
  }

pub sorted_end : (k : ℕ) (degrees : List ℕ) (i : ℕ) (l : NodeLists) → i ≡ length degrees → AreSortedTo k degrees i l → AreSorted k degrees l
sorted_end k degrees i l is sorted = record {
  nodes = sorted.nodes;
  lists = sorted.lists;
  within = λ z there. elim (or_cases (has z (list_at l.lists 0)) (has z (list_at l.lists 1)) there) [
    | inl a ↦ subst (λ n. z < n) is (sorted.within z 0 a)
    | inr b ↦ subst (λ n. z < n) is (sorted.within z 1 b)
  ];
  there = λ z below. sorted.there z (subst (λ n. z < n) (sym is) below);
  low = sorted.low;
  high = sorted.high;
}

pub sorted_pushed : (k : ℕ) (degrees : List ℕ) (i : ℕ) (l after : NodeLists) (list node : ℕ) → AreSortedTo k degrees i l → i < length degrees → list ≡ list_for k (degree_of degrees i) → node ≡ i →
    after.nodes ≡ l.nodes → after.lists ≡ set l.lists list (list_at l.lists list ++ node ∷ []) → AreSortedTo k degrees (i + 1) after
sorted_pushed k degrees i l after list node sorted low at_ is nodes lists = subst (λ s. AreSortedTo k degrees (i + 1) s) (sym shown_is) (sorted_next k degrees i l sorted low)
  where
    lists_are : after.lists ≡ set l.lists (list_for k (degree_of degrees i)) (list_at l.lists (list_for k (degree_of degrees i)) ++ i ∷ [])
    lists_are = lists ∙ (ap (λ n. set l.lists n (list_at l.lists n ++ node ∷ [])) at_
        ∙ ap (λ (n : ℕ). set l.lists (list_for k (degree_of degrees i)) (list_at l.lists (list_for k (degree_of degrees i)) ++ n ∷ [])) is)

    shown_is : after ≡ record { nodes = l.nodes; lists = set l.lists (list_for k (degree_of degrees i)) (list_at l.lists (list_for k (degree_of degrees i)) ++ i ∷ []) }
    shown_is = ap (λ n. record { nodes = n; lists = after.lists }) nodes ∙ ap (λ ls. record { nodes = l.nodes; lists = ls }) lists_are
