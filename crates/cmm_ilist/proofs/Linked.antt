-- The tables of links after a node comes to the end of a list, and after it goes.
use Rattle.std.proofs.Common.{◌≡◌, ◌≢◌, ◌⊎◌, inl, inr, ℕ, zero, suc, ◌<◌, ◌≤◌, Bool, true, false, List, [], ◌∷◌, ◌++◌, length, set, map, replicate, Option, Some, None, refl, sym, ◌∙◌, ap, subst, arith}
use Rattle.std.proofs.lemmas.Bool.{cases_eq, cases_lt}
use Rattle.std.proofs.lemmas.List.{ext_get_or, get_or-set_other, get_or-set_same, get_or_past, length-map, length-set, length-replicate}
use Rattle.std.proofs.lemmas.Option.{same_Some}
use Rattle.cmm_ilist.specs.NodeLists.{after_in, front_of, has, is_distinct, IsInNone, list_at, without}
use Rattle.cmm_ilist.specs.inside.Linked.{AreLinked, Tables, back_of, before_in, entry, lists_of, nodes_from, set_unless, set_when}
use Rattle.cmm_ilist.proofs.Elements.{after_here, after_is_in, after_skip, apart, before_is_in, distinct_first, distinct_rest, has_here, has_later, left_was, no_some, replicate_at, without_absent, without_distinct, without_has}
use Rattle.cmm_ilist.proofs.Counting.{few_below}
use Rattle.cmm_ilist.proofs.Pushing.{after_earlier, after_last, after_new, back_is_new, back_is_there, before_new, before_old, front_of_more, front_of_one, has_end, has_pushed, has_still, pushed_distinct}
use Rattle.cmm_ilist.proofs.Unlinking.{after_around, after_others, back_without_earlier, back_without_last, before_around, before_others, front_without_first, front_without_later}

-- ---- entries

-- an entry that is something is there
pub entry_within : (t : List (Option ℕ)) (x k : ℕ) → entry t x ≡ Some k → x < length t
entry_within t x k is = elim (cases_lt x (length t)) [
  | inl below ↦ below
  | inr past ↦ absurd (no_some (sym (get_or_past t x None past) ∙ is))
]

pub entry_same : (t : List (Option ℕ)) (x : ℕ) (e : Option ℕ) → x < length t → entry (set t x e) x ≡ e
entry_same t x e within = get_or-set_same t x e None within

pub entry_other : (t : List (Option ℕ)) (x z : ℕ) (e : Option ℕ) → z ≢ x → entry (set t x e) z ≡ entry t z
entry_other t x z e other = get_or-set_other t x z e None other

pub when_other : (node : Option ℕ) (e : Option ℕ) (t : List (Option ℕ)) (z : ℕ) → node ≢ Some z → entry (set_when node e t) z ≡ entry t z
when_other None e t z other = refl
when_other (Some n) e t z other = entry_other t n z e (λ same. other (ap Some (sym same)))

pub when_same : (e : Option ℕ) (t : List (Option ℕ)) (z : ℕ) → z < length t → entry (set_when (Some z) e t) z ≡ e
when_same e t z within = entry_same t z e within

pub when_length : (node e : Option ℕ) (t : List (Option ℕ)) → length (set_when node e t) ≡ length t
when_length None e t = refl
when_length (Some n) e t = length-set t n e

pub unless_length : (node : Option ℕ) (k : ℕ) (e : Option ℕ) (t : List (Option ℕ)) → length (set_unless node k e t) ≡ length t
unless_length None k e t = length-set t k e
unless_length (Some n) k e t = refl

pub unless_other : (node : Option ℕ) (k j : ℕ) (e : Option ℕ) (t : List (Option ℕ)) → j ≢ k → entry (set_unless node k e t) j ≡ entry t j
unless_other None k j e t other = entry_other t k j e other
unless_other (Some n) k j e t other = refl

-- which of two an optional node is
cases_node : (node : Option ℕ) (z : ℕ) → (node ≡ Some z) ⊎ (node ≢ Some z)
cases_node None z = inr (λ e. no_some e)
cases_node (Some n) z = elim (cases_eq n z) [
  | inl same ↦ inl (ap Some same)
  | inr other ↦ inr (λ e. other (same_Some n z e))
]

cases_some : (node : Option ℕ) → (node ≡ None) ⊎ ((n : ℕ) × (node ≡ Some n))
cases_some None = inl refl
cases_some (Some n) = inr (n, refl)

-- ---- the lists that tables stand for

nodes_are : (n : ℕ) (after : List (Option ℕ)) (xs : List ℕ) → is_distinct xs ≡ true → ((y : ℕ) → has y xs ≡ true → entry after y ≡ after_in y xs) → length xs ≤ n →
    nodes_from n after (front_of xs) ≡ xs
nodes_are zero after [] distinct links few = refl
nodes_are zero after (x ∷ xs) distinct links few = absurd (omega (arith, few))
nodes_are (suc n) after [] distinct links few = refl
nodes_are (suc n) after (x ∷ xs) distinct links few =
    ap (λ l. x ∷ l) (ap (nodes_from n after) (links x (has_here x xs) ∙ after_here x xs)
    ∙ nodes_are n after xs (distinct_rest x xs distinct)
    (λ y is. links y (has_later y x xs is) ∙ after_skip y x xs (apart x y xs (distinct_first x xs distinct) is)) (omega (arith, few)))

nobody_from : (n : ℕ) (after : List (Option ℕ)) → nodes_from n after None ≡ []
nobody_from zero after = refl
nobody_from (suc n) after = refl

at_first : (n : ℕ) (after first : List (Option ℕ)) (k : ℕ) → list_at (lists_of n after first) k ≡ nodes_from n after (entry first k)
at_first n after [] k = sym (nobody_from n after)
at_first n after (f ∷ first) zero = refl
at_first n after (f ∷ first) (suc k) = at_first n after first k

pub lists_are : (t : Tables) (lists : List (List ℕ)) → AreLinked t lists → lists_of (length t.owner) t.after t.first ≡ lists
lists_are t lists linked =
    ext_get_or [] (lists_of (length t.owner) t.after t.first) lists (length-map t.first (nodes_from (length t.owner) t.after) ∙ linked.firsts)
    (λ k below. (let within : k < length lists = subst (λ n. k < n) (length-map t.first (nodes_from (length t.owner) t.after) ∙ linked.firsts) below in
    at_first (length t.owner) t.after t.first k
    ∙ (ap (nodes_from (length t.owner) t.after) (linked.first k within)
    ∙ nodes_are (length t.owner) t.after (list_at lists k) (linked.distinct k) (λ y is. linked.after k y is)
    (few_below (length t.owner) (list_at lists k) (linked.distinct k) (λ z is. entry_within t.owner z k (linked.owned k z is))))))

-- tables that are linked for some lists are for those that they stand for
pub are_linked : (t : Tables) (lists : List (List ℕ)) → AreLinked t lists → AreLinked t (lists_of (length t.owner) t.after t.first)
are_linked t lists linked = subst (AreLinked t) (sym (lists_are t lists linked)) linked

-- ---- no nodes

abbrev no_links : ℕ → ℕ → Tables
no_links n m = record { owner = replicate n None; before = replicate n None; after = replicate n None; first = replicate m None; last = replicate m None }

pub are_empty : (n m : ℕ) → AreLinked (no_links n m) (replicate m [])
are_empty n m = record {
  befores = refl;
  afters = refl;
  firsts = length-replicate m None ∙ sym (length-replicate m []);
  lasts = length-replicate m None ∙ sym (length-replicate m []);
  distinct = λ k. ap is_distinct (replicate_at [] m k);
  owned = λ k x is. nowhere k x is;
  owner = λ k x is. absurd (no_some (sym (replicate_at None n x) ∙ is));
  before = λ k x is. nowhere k x is;
  after = λ k x is. nowhere k x is;
  first = λ k below. replicate_at None m k ∙ sym (ap front_of (replicate_at [] m k));
  last = λ k below. replicate_at None m k ∙ sym (ap (back_of None) (replicate_at [] m k));
}
  where
    nowhere : {A : Type 0} (k x : ℕ) → has x (list_at (replicate m []) k) ≡ true → A
    nowhere k x is = let none : has x [] ≡ true = sym (ap (has x) (replicate_at [] m k)) ∙ is in absurd (cc (none))

-- ---- a node goes

pub at_map : (x : ℕ) (lists : List (List ℕ)) (k : ℕ) → list_at (map (without x) lists) k ≡ without x (list_at lists k)
at_map x [] k = refl
at_map x (l ∷ lists) zero = refl
at_map x (l ∷ lists) (suc k) = at_map x lists k

module _ (t : Tables) (lists : List (List ℕ)) (linked : AreLinked t lists) (x k0 : ℕ) (is_owner : entry t.owner x ≡ Some k0) where
  abbrev before_ : Option ℕ
  before_ = entry t.before x

  abbrev after_ : Option ℕ
  after_ = entry t.after x

  abbrev own : List ℕ
  own = list_at lists k0

  abbrev unlinked : Tables
  unlinked = record {
    owner = set t.owner x None;
    before = set_when after_ before_ t.before;
    after = set_when before_ after_ t.after;
    first = set_unless before_ k0 after_ t.first;
    last = set_unless after_ k0 before_ t.last;
  }

  within : x < length t.owner
  within = entry_within t.owner x k0 is_owner

  there : has x own ≡ true
  there = linked.owner k0 x is_owner

  before_is : before_ ≡ before_in None x own
  before_is = linked.before k0 x there

  after_is : after_ ≡ after_in x own
  after_is = linked.after k0 x there

  -- it is in no other list
  absent : (k : ℕ) → k ≢ k0 → has x (list_at lists k) ≡ false
  absent k other = by (has x (list_at lists k)) refl
    where
      by : (b : Bool) → has x (list_at lists k) ≡ b → b ≡ false
      by true is = absurd (other (same_Some k k0 (sym (linked.owned k x is) ∙ is_owner)))
      by false is = refl

  -- who has two lists
  same_list : (k z : ℕ) → has z (list_at lists k) ≡ true → has z own ≡ true → k ≡ k0
  same_list k z one other = same_Some k k0 (sym (linked.owned k z one) ∙ linked.owned k0 z other)

  size_of : (z k : ℕ) → has z (list_at lists k) ≡ true → z < length t.owner
  size_of z k is = entry_within t.owner z k (linked.owned k z is)

  pub before_there : (z : ℕ) → before_ ≡ Some z → has z own ≡ true
  before_there z is = elim (before_is_in None x z own (sym before_is ∙ is)) [
    | inl none ↦ absurd (no_some none)
    | inr in_it ↦ in_it
  ]

  pub after_there : (z : ℕ) → after_ ≡ Some z → has z own ≡ true
  after_there z is = after_is_in x z own (sym after_is ∙ is)

  unlinked_owned : (k z : ℕ) → has z (without x (list_at lists k)) ≡ true → entry unlinked.owner z ≡ Some k
  unlinked_owned k z is = let was = left_was x z (list_at lists k) is in entry_other t.owner x z None was.0 ∙ linked.owned k z was.1

  unlinked_owner : (k z : ℕ) → entry unlinked.owner z ≡ Some k → has z (without x (list_at lists k)) ≡ true
  unlinked_owner k z is = elim (cases_eq z x) [
    | inl same ↦ absurd (no_some (sym (ap (entry unlinked.owner) same ∙ entry_same t.owner x None within) ∙ is))
    | inr other ↦ without_has x z (list_at lists k) other ∙ linked.owner k z (sym (entry_other t.owner x z None other) ∙ is)
  ]

  unlinked_before : (k z : ℕ) → has z (without x (list_at lists k)) ≡ true → entry unlinked.before z ≡ before_in None z (without x (list_at lists k))
  unlinked_before k z is = let was = left_was x z (list_at lists k) is in elim (cases_node after_ z) [
    | inl here ↦
        let same : k ≡ k0 = same_list k z was.1 (after_there z here) in
        ap (λ o. entry (set_when o before_ t.before) z) here
        ∙ (when_same before_ t.before z (subst (λ n. z < n) (sym linked.befores) (size_of z k was.1))
        ∙ (before_is ∙ (sym (before_around None x z own (linked.distinct k0) (sym after_is ∙ here)) ∙ ap (λ j. before_in None z (without x (list_at lists j))) (sym same))))
    | inr away ↦ when_other after_ before_ t.before z away ∙ (linked.before k z was.1 ∙ sym (elim (cases_eq k k0) [
      | inl same ↦ before_others None x z (list_at lists k) (linked.distinct k) was.0
          (λ e. away (after_is ∙ (ap (λ j. after_in x (list_at lists j)) (sym same) ∙ e)))
      | inr other ↦ ap (before_in None z) (without_absent x (list_at lists k) (absent k other))
    ]))
  ]

  unlinked_after : (k z : ℕ) → has z (without x (list_at lists k)) ≡ true → entry unlinked.after z ≡ after_in z (without x (list_at lists k))
  unlinked_after k z is = let was = left_was x z (list_at lists k) is in elim (cases_node before_ z) [
    | inl here ↦
        let same : k ≡ k0 = same_list k z was.1 (before_there z here) in
        ap (λ o. entry (set_when o after_ t.after) z) here
        ∙ (when_same after_ t.after z (subst (λ n. z < n) (sym linked.afters) (size_of z k was.1))
        ∙ (after_is ∙ (sym (after_around None x z own (linked.distinct k0) (λ e. no_some e) (sym before_is ∙ here)) ∙ ap (λ j. after_in z (without x (list_at lists j))) (sym same))))
    | inr away ↦ when_other before_ after_ t.after z away ∙ (linked.after k z was.1 ∙ sym (elim (cases_eq k k0) [
      | inl same ↦ after_others None x z (list_at lists k) (linked.distinct k) was.0
          (λ e. away (before_is ∙ (ap (λ j. before_in None x (list_at lists j)) (sym same) ∙ e)))
      | inr other ↦ ap (after_in z) (without_absent x (list_at lists k) (absent k other))
    ]))
  ]

  unlinked_first : (k : ℕ) → k < length lists → entry unlinked.first k ≡ front_of (without x (list_at lists k))
  unlinked_first k below = elim (cases_eq k k0) [
    | inl same ↦ elim (cases_some before_) [
      | inl none ↦
          ap (λ o. entry (set_unless o k0 after_ t.first) k) none
          ∙ (ap (entry (set t.first k0 after_)) same ∙ (entry_same t.first k0 after_ (subst (λ n. k0 < n) (sym linked.firsts) (subst (λ j. j < length lists) same below))
          ∙ (after_is ∙ (sym (front_without_first x own (linked.distinct k0) there (sym before_is ∙ none)) ∙ ap (λ j. front_of (without x (list_at lists j))) (sym same)))))
      | inr some ↦
          ap (λ o. entry (set_unless o k0 after_ t.first) k) some.1
          ∙ (linked.first k below ∙ (ap (λ j. front_of (list_at lists j)) same
          ∙ (sym (front_without_later x some.0 own (sym before_is ∙ some.1)) ∙ ap (λ j. front_of (without x (list_at lists j))) (sym same))))
    ]
    | inr other ↦ unless_other before_ k0 k after_ t.first other ∙ (linked.first k below ∙ sym (ap front_of (without_absent x (list_at lists k) (absent k other))))
  ]

  unlinked_last : (k : ℕ) → k < length lists → entry unlinked.last k ≡ back_of None (without x (list_at lists k))
  unlinked_last k below = elim (cases_eq k k0) [
    | inl same ↦ elim (cases_some after_) [
      | inl none ↦
          ap (λ o. entry (set_unless o k0 before_ t.last) k) none
          ∙ (ap (entry (set t.last k0 before_)) same ∙ (entry_same t.last k0 before_ (subst (λ n. k0 < n) (sym linked.lasts) (subst (λ j. j < length lists) same below))
          ∙ (before_is ∙ (sym (back_without_last None x own (linked.distinct k0) there (sym after_is ∙ none)) ∙ ap (λ j. back_of None (without x (list_at lists j))) (sym same)))))
      | inr some ↦
          ap (λ o. entry (set_unless o k0 before_ t.last) k) some.1
          ∙ (linked.last k below ∙ (ap (λ j. back_of None (list_at lists j)) same
          ∙ (sym (back_without_earlier None x some.0 own (linked.distinct k0) (sym after_is ∙ some.1)) ∙ ap (λ j. back_of None (without x (list_at lists j))) (sym same))))
    ]
    | inr other ↦ unless_other after_ k0 k before_ t.last other ∙ (linked.last k below ∙ sym (ap (back_of None) (without_absent x (list_at lists k) (absent k other))))
  ]

  pub are_unlinked : AreLinked unlinked (map (without x) lists)
  are_unlinked = record {
    befores = when_length after_ before_ t.before ∙ (linked.befores ∙ sym (length-set t.owner x None));
    afters = when_length before_ after_ t.after ∙ (linked.afters ∙ sym (length-set t.owner x None));
    firsts = unless_length before_ k0 after_ t.first ∙ (linked.firsts ∙ sym (length-map lists (without x)));
    lasts = unless_length after_ k0 before_ t.last ∙ (linked.lasts ∙ sym (length-map lists (without x)));
    distinct = λ k. ap is_distinct (at_map x lists k) ∙ without_distinct x (list_at lists k) (linked.distinct k);
    owned = λ k z is. unlinked_owned k z (sym (ap (has z) (at_map x lists k)) ∙ is);
    owner = λ k z is. ap (has z) (at_map x lists k) ∙ unlinked_owner k z is;
    before = λ k z is. unlinked_before k z (sym (ap (has z) (at_map x lists k)) ∙ is) ∙ sym (ap (before_in None z) (at_map x lists k));
    after = λ k z is. unlinked_after k z (sym (ap (has z) (at_map x lists k)) ∙ is) ∙ sym (ap (after_in z) (at_map x lists k));
    first = λ k below. unlinked_first k (subst (λ n. k < n) (length-map lists (without x)) below) ∙ sym (ap front_of (at_map x lists k));
    last = λ k below. unlinked_last k (subst (λ n. k < n) (length-map lists (without x)) below) ∙ sym (ap (back_of None) (at_map x lists k));
  }

-- ---- a node comes

module _ (t : Tables) (lists : List (List ℕ)) (linked : AreLinked t lists) (x k0 : ℕ) (within : x < length t.owner) (is_list : k0 < length lists) (free : IsInNone x lists) where
  abbrev old : List ℕ
  old = list_at lists k0

  abbrev grown : List (List ℕ)
  grown = set lists k0 (old ++ x ∷ [])

  abbrev end_ : Option ℕ
  end_ = entry t.last k0

  abbrev pushed : Tables
  pushed = record {
    owner = set t.owner x (Some k0);
    before = set t.before x end_;
    after = set (set_when end_ (Some x) t.after) x None;
    first = set_unless end_ k0 (Some x) t.first;
    last = set t.last k0 (Some x);
  }

  end_is : end_ ≡ back_of None old
  end_is = linked.last k0 is_list

  here_is : list_at grown k0 ≡ old ++ x ∷ []
  here_is = get_or-set_same lists k0 (old ++ x ∷ []) [] is_list

  away_is : (k : ℕ) → k ≢ k0 → list_at grown k ≡ list_at lists k
  away_is k other = get_or-set_other lists k0 k (old ++ x ∷ []) [] other

  -- who is in a list now
  grown_has : (k z : ℕ) → has z (list_at grown k) ≡ true → ((k ≡ k0) × (x ≡ z)) ⊎ ((x ≢ z) × (has z (list_at lists k) ≡ true))
  grown_has k z is = elim (cases_eq k k0) [
    | inl same ↦ elim (has_pushed x z old (sym (ap (has z) (ap (list_at grown) same ∙ here_is)) ∙ is)) [
      | inl new ↦ inl (same, new)
      | inr was ↦ inr (other_than z k (ap (λ j. has z (list_at lists j)) same ∙ was), ap (λ j. has z (list_at lists j)) same ∙ was)
    ]
    | inr other ↦ let was : has z (list_at lists k) ≡ true = sym (ap (has z) (away_is k other)) ∙ is in inr (other_than z k was, was)
  ]
    where
      other_than : (z k : ℕ) → has z (list_at lists k) ≡ true → x ≢ z
      other_than z k was = apart x z (list_at lists k) (free k) was

  size_at : (z k : ℕ) → has z (list_at lists k) ≡ true → z < length t.owner
  size_at z k is = entry_within t.owner z k (linked.owned k z is)

  pushed_owned : (k z : ℕ) → has z (list_at grown k) ≡ true → entry pushed.owner z ≡ Some k
  pushed_owned k z is = elim (grown_has k z is) [
    | inl new ↦ ap (entry pushed.owner) (sym new.1) ∙ (entry_same t.owner x (Some k0) within ∙ ap Some (sym new.0))
    | inr was ↦ entry_other t.owner x z (Some k0) (λ e. was.0 (sym e)) ∙ linked.owned k z was.1
  ]

  still_has : (k z : ℕ) → has z (list_at lists k) ≡ true → has z (list_at grown k) ≡ true
  still_has k z was = elim (cases_eq k k0) [
    | inl same ↦ ap (has z) (ap (list_at grown) same ∙ here_is) ∙ has_still x z old (ap (λ j. has z (list_at lists j)) (sym same) ∙ was)
    | inr other ↦ ap (has z) (away_is k other) ∙ was
  ]

  pushed_owner : (k z : ℕ) → entry pushed.owner z ≡ Some k → has z (list_at grown k) ≡ true
  pushed_owner k z is = elim (cases_eq z x) [
    | inl same ↦
        let list : k ≡ k0 = same_Some k k0 (sym is ∙ (ap (entry pushed.owner) same ∙ entry_same t.owner x (Some k0) within)) in
        ap (λ n. has n (list_at grown k)) same ∙ (ap (has x) (ap (list_at grown) list ∙ here_is) ∙ has_end x old)
    | inr other ↦ still_has k z (linked.owner k z (sym (entry_other t.owner x z (Some k0) other) ∙ is))
  ]

  pushed_before : (k z : ℕ) → has z (list_at grown k) ≡ true → entry pushed.before z ≡ before_in None z (list_at grown k)
  pushed_before k z is = elim (grown_has k z is) [
    | inl new ↦
        ap (entry pushed.before) (sym new.1) ∙ (entry_same t.before x end_ (subst (λ n. x < n) (sym linked.befores) within)
        ∙ (end_is ∙ (sym (before_new None x old (free k0)) ∙ (ap (before_in None x) (sym (ap (list_at grown) new.0 ∙ here_is)) ∙ ap (λ n. before_in None n (list_at grown k)) new.1))))
    | inr was ↦ entry_other t.before x z end_ (λ e. was.0 (sym e)) ∙ (linked.before k z was.1 ∙ sym (elim (cases_eq k k0) [
      | inl same ↦ ap (before_in None z) (ap (list_at grown) same ∙ here_is) ∙ (before_old None x z old (ap (λ j. has z (list_at lists j)) (sym same) ∙ was.1)
          ∙ ap (λ j. before_in None z (list_at lists j)) (sym same))
      | inr other ↦ ap (before_in None z) (away_is k other)
    ]))
  ]

  pushed_after : (k z : ℕ) → has z (list_at grown k) ≡ true → entry pushed.after z ≡ after_in z (list_at grown k)
  pushed_after k z is = elim (grown_has k z is) [
    | inl new ↦
        ap (entry pushed.after) (sym new.1)
        ∙ (entry_same (set_when end_ (Some x) t.after) x None (subst (λ n. x < n) (sym (when_length end_ (Some x) t.after ∙ linked.afters)) within)
        ∙ (sym (after_new x old (free k0)) ∙ (ap (after_in x) (sym (ap (list_at grown) new.0 ∙ here_is)) ∙ ap (λ n. after_in n (list_at grown k)) new.1)))
    | inr was ↦ entry_other (set_when end_ (Some x) t.after) x z None (λ e. was.0 (sym e)) ∙ (elim (cases_node end_ z) [
      | inl last ↦
          let in_old : has z old ≡ true = back_is_there z old (sym end_is ∙ last) in
          let same : k ≡ k0 = same_Some k k0 (sym (linked.owned k z was.1) ∙ linked.owned k0 z in_old) in
          ap (λ o. entry (set_when o (Some x) t.after) z) last
          ∙ (when_same (Some x) t.after z (subst (λ n. z < n) (sym linked.afters) (size_at z k was.1))
          ∙ (sym (after_last None x z old (linked.distinct k0) in_old (sym end_is ∙ last)) ∙ ap (after_in z) (sym (ap (list_at grown) same ∙ here_is))))
      | inr not_last ↦ when_other end_ (Some x) t.after z not_last ∙ (linked.after k z was.1 ∙ sym (elim (cases_eq k k0) [
        | inl same ↦ ap (after_in z) (ap (list_at grown) same ∙ here_is)
            ∙ (after_earlier None x z old (ap (λ j. has z (list_at lists j)) (sym same) ∙ was.1) (λ e. not_last (end_is ∙ e))
            ∙ ap (λ j. after_in z (list_at lists j)) (sym same))
        | inr other ↦ ap (after_in z) (away_is k other)
      ]))
    ])
  ]

  pushed_first : (k : ℕ) → k < length lists → entry pushed.first k ≡ front_of (list_at grown k)
  pushed_first k below = elim (cases_eq k k0) [
    | inl same ↦ elim (cases_some end_) [
      | inl none ↦
          ap (λ o. entry (set_unless o k0 (Some x) t.first) k) none
          ∙ (ap (entry (set t.first k0 (Some x))) same ∙ (entry_same t.first k0 (Some x) (subst (λ n. k0 < n) (sym linked.firsts) is_list)
          ∙ (sym (front_of_one x old (sym end_is ∙ none)) ∙ ap front_of (sym (ap (list_at grown) same ∙ here_is)))))
      | inr some ↦
          ap (λ o. entry (set_unless o k0 (Some x) t.first) k) some.1
          ∙ (linked.first k below ∙ (ap (λ j. front_of (list_at lists j)) same
          ∙ (sym (front_of_more x some.0 old (sym end_is ∙ some.1)) ∙ ap front_of (sym (ap (list_at grown) same ∙ here_is)))))
    ]
    | inr other ↦ unless_other end_ k0 k (Some x) t.first other ∙ (linked.first k below ∙ ap front_of (sym (away_is k other)))
  ]

  pushed_last : (k : ℕ) → k < length lists → entry pushed.last k ≡ back_of None (list_at grown k)
  pushed_last k below = elim (cases_eq k k0) [
    | inl same ↦
        ap (entry pushed.last) same ∙ (entry_same t.last k0 (Some x) (subst (λ n. k0 < n) (sym linked.lasts) is_list)
        ∙ (sym (back_is_new None x old) ∙ ap (back_of None) (sym (ap (list_at grown) same ∙ here_is))))
    | inr other ↦ entry_other t.last k0 k (Some x) other ∙ (linked.last k below ∙ ap (back_of None) (sym (away_is k other)))
  ]

  distinct_now : (k : ℕ) → is_distinct (list_at grown k) ≡ true
  distinct_now k = elim (cases_eq k k0) [
    | inl same ↦ ap is_distinct (ap (list_at grown) same ∙ here_is) ∙ pushed_distinct x old (free k0) (linked.distinct k0)
    | inr other ↦ ap is_distinct (away_is k other) ∙ linked.distinct k
  ]

  pub are_pushed : AreLinked pushed grown
  are_pushed = record {
    befores = length-set t.before x end_ ∙ (linked.befores ∙ sym (length-set t.owner x (Some k0)));
    afters = length-set (set_when end_ (Some x) t.after) x None ∙ (when_length end_ (Some x) t.after ∙ (linked.afters ∙ sym (length-set t.owner x (Some k0))));
    firsts = unless_length end_ k0 (Some x) t.first ∙ (linked.firsts ∙ sym (length-set lists k0 (old ++ x ∷ [])));
    lasts = length-set t.last k0 (Some x) ∙ (linked.lasts ∙ sym (length-set lists k0 (old ++ x ∷ [])));
    distinct = distinct_now;
    owned = pushed_owned;
    owner = pushed_owner;
    before = pushed_before;
    after = pushed_after;
    first = λ k below. pushed_first k (subst (λ n. k < n) (length-set lists k0 (old ++ x ∷ [])) below);
    last = λ k below. pushed_last k (subst (λ n. k < n) (length-set lists k0 (old ++ x ∷ [])) below);
  }
