-- What the calls answer, by the tables.
use Rattle.std.proofs.Common.{◌≡◌, ◌≢◌, inl, inr, ℕ, zero, suc, ◌<◌, true, false, List, [], ◌∷◌, ◌++◌, length, set, get_or, map, replicate, is_some, Option, Some, None, refl, sym, ◌∙◌, ap, subst, arith}
use Rattle.std.specs.Prelude.{◌↔◌, IfSome}
use Rattle.std.proofs.lemmas.Bool.{or_cases, or_left, or_right}
use Rattle.std.proofs.lemmas.List.{get_or_default, length-replicate}
use Rattle.cmm_ilist.specs.NodeLists.{AreApart, IsInNone, NodeLists, has, is_in_some, list_at, without}
use Rattle.cmm_ilist.specs.inside.Linked.{AreLinked, Tables, entry, lists_of, set_unless, set_when}
use Rattle.std.proofs.lemmas.Option.{same_Some}
use Rattle.cmm_ilist.proofs.Elements.{lacks_of, no_some}
use Rattle.cmm_ilist.proofs.Linked.{after_there, are_empty, are_pushed, are_unlinked, before_there, entry_within, lists_are}
use Rattle.cmm_ilist.proofs.Pushing.{back_is_there}

-- what is read at an index
pub entry_read : (t : List (Option ℕ)) (x : ℕ) (o : Option ℕ) → x < length t → o ≡ get_or t x o → entry t x ≡ o
entry_read t x o within is = get_or_default t x None o within ∙ sym is

pub if_some : (o : Option ℕ) (P : ℕ → Type 0) → ((n : ℕ) → o ≡ Some n → P n) → IfSome o P
if_some None P each = tt
if_some (Some n) P each = each n refl

-- a node that is in some list is in one of a number
pub some_has : (x : ℕ) (lists : List (List ℕ)) → is_in_some x lists ≡ true → (k : ℕ) × (has x (list_at lists k) ≡ true)
some_has x [] is = absurd (cc (is))
some_has x (xs ∷ rest) is = elim (or_cases (has x xs) (is_in_some x rest) is) [
  | inl here ↦ (0, here)
  | inr later ↦ let r = some_has x rest later in (suc r.0, r.1)
]

-- what the tables say of a node that has a list
pub record IsAt (t : Tables) (x k : ℕ) (b a : Option ℕ) : Type 0 where
  pub owner : entry t.owner x ≡ Some k
  pub before : entry t.before x ≡ b
  pub after : entry t.after x ≡ a

-- and one that is in a list of a number is in some
pub has_some : (x : ℕ) (lists : List (List ℕ)) (k : ℕ) → has x (list_at lists k) ≡ true → is_in_some x lists ≡ true
has_some x [] k there = absurd (cc (there))
has_some x (xs ∷ rest) zero there = or_left (has x xs) (is_in_some x rest) there
has_some x (xs ∷ rest) (suc k) there = or_right (has x xs) (is_in_some x rest) (has_some x rest k there)

-- a node that is in no list is in none of a number
pub none_has : (x : ℕ) (lists : List (List ℕ)) → is_in_some x lists ≡ false → IsInNone x lists
none_has x lists none k = lacks_of (has x (list_at lists k)) (λ there. (let some = has_some x lists k there in cc (none, some)))

pub has_none : (x : ℕ) (lists : List (List ℕ)) → IsInNone x lists → is_in_some x lists ≡ false
has_none x lists none = lacks_of (is_in_some x lists) (λ there. (let r = some_has x lists there in let lacks = none r.0 in cc (lacks, r.1)))

module _ (t : Tables) (lists : List (List ℕ)) (linked : AreLinked t lists) where
  pub node_within : (x k : ℕ) → has x (list_at lists k) ≡ true → x < length t.owner
  node_within x k is = entry_within t.owner x k (linked.owned k x is)

  -- a node that is in some list, as they are shown
  pub standing : (x : ℕ) (shown : List (List ℕ)) → lists ≡ shown → is_in_some x shown ≡ true → x < length t.owner
  standing x shown is some = let r = some_has x lists (ap (is_in_some x) is ∙ some) in node_within x r.0 r.1

  -- and it has an owner
  pub has_owner : (x : ℕ) (shown : List (List ℕ)) → lists ≡ shown → is_in_some x shown ≡ true → (o : Option ℕ) → entry t.owner x ≡ o → ((k : ℕ) → o ≢ Some k) → ⊥
  has_owner x shown is some o read never =
      let r = some_has x lists (ap (is_in_some x) is ∙ some) in never r.0 (sym read ∙ linked.owned r.0 x r.1)

  pub is_at : (x : ℕ) → x < length t.owner → (o : Option ℕ) (k : ℕ) (b a : Option ℕ) → o ≡ get_or t.owner x o → o ≡ Some k → b ≡ get_or t.before x b →
      a ≡ get_or t.after x a → IsAt t x k b a
  is_at x below o k b a is_o some is_b is_a = record {
    owner = entry_read t.owner x o below is_o ∙ some;
    before = entry_read t.before x b (omega (arith, below, linked.befores)) is_b;
    after = entry_read t.after x a (omega (arith, below, linked.afters)) is_a;
  }

  -- the list of a node
  pub owner_tells : (x : ℕ) (o : Option ℕ) → entry t.owner x ≡ o → (k : ℕ) → (o ≡ Some k) ↔ (has x (list_at lists k) ≡ true)
  owner_tells x o is k = (λ some. linked.owner k x (is ∙ some), λ there. sym is ∙ linked.owned k x there)

  pub owner_is_some : (x : ℕ) (o : Option ℕ) → entry t.owner x ≡ o → is_some o ≡ is_in_some x lists
  owner_is_some x None is = sym (has_none x lists (λ k. lacks_of (has x (list_at lists k)) (λ there. no_some (sym is ∙ linked.owned k x there))))
  owner_is_some x (Some k) is = sym (has_some x lists k (linked.owner k x is))

  -- each node stands in one list, once
  pub are_apart : AreApart (record { nodes = length t.owner; lists = lists })
  are_apart = record {
    below = λ k x is. node_within x k is;
    once = linked.distinct;
    one = λ j k x at_j at_k. same_Some j k (sym (linked.owned j x at_j) ∙ linked.owned k x at_k);
  }

  -- a node that has a list
  module _ (x k0 : ℕ) (b a : Option ℕ) (at : IsAt t x k0 b a) where
    list_below : k0 < length lists
    list_below = below lists k0 (linked.owner k0 x at.owner)
      where
        below : (ls : List (List ℕ)) (k : ℕ) → has x (list_at ls k) ≡ true → k < length ls
        below [] k is = absurd (cc (is))
        below (l ∷ ls) zero is = omega arith
        below (l ∷ ls) (suc k) is = omega (arith, below ls k is)

    pub first_within : k0 < length t.first
    first_within = subst (λ n. k0 < n) (sym linked.firsts) list_below

    pub last_within : k0 < length t.last
    last_within = subst (λ n. k0 < n) (sym linked.lasts) list_below

    pub before_within : IfSome b (λ n. n < length t.after)
    before_within = if_some b (λ n. n < length t.after) (λ n is. subst (λ m. n < m) (sym linked.afters)
        (node_within n k0 (before_there t lists linked x k0 at.owner n (at.before ∙ is))))

    pub after_within : IfSome a (λ n. n < length t.before)
    after_within = if_some a (λ n. n < length t.before) (λ n is. subst (λ m. n < m) (sym linked.befores)
        (node_within n k0 (after_there t lists linked x k0 at.owner n (at.after ∙ is))))

    pub unlinked_new : (owner before after first last : List (Option ℕ)) → owner ≡ set t.owner x None → before ≡ set_when a b t.before → after ≡ set_when b a t.after →
        first ≡ set_unless b k0 a t.first → last ≡ set_unless a k0 b t.last →
        AreLinked (record { owner = owner; before = before; after = after; first = first; last = last }) (map (without x) lists)
    unlinked_new owner before after first last is_o is_b is_a is_f is_l =
        rw (is_o, is_b, is_a, is_f, is_l, ← at.before, ← at.after) (are_unlinked t lists linked x k0 at.owner)

  -- a node that has none
  module _ (x k0 : ℕ) (within : x < length t.owner) (is_list : k0 < length lists) (free : IsInNone x lists) (e : Option ℕ) (is_end : entry t.last k0 ≡ e) where
    pub end_within : IfSome e (λ n. n < length t.after)
    end_within = if_some e (λ n. n < length t.after) (λ n is. subst (λ m. n < m) (sym linked.afters)
        (node_within n k0 (back_is_there n (list_at lists k0) (sym (linked.last k0 is_list) ∙ (is_end ∙ is)))))

    pub pushed_new : (owner before after first last : List (Option ℕ)) → owner ≡ set t.owner x (Some k0) → before ≡ set t.before x e → after ≡ set (set_when e (Some x) t.after) x None →
        first ≡ set_unless e k0 (Some x) t.first → last ≡ set t.last k0 (Some x) →
        AreLinked (record { owner = owner; before = before; after = after; first = first; last = last }) (set lists k0 (list_at lists k0 ++ x ∷ []))
    pushed_new owner before after first last is_o is_b is_a is_f is_l =
        rw (is_o, is_b, is_a, is_f, is_l, ← is_end) (are_pushed t lists linked x k0 within is_list free)

-- the lists that are shown
abbrev pub lists_in : NodeLists → List (List ℕ)
lists_in l = l.lists

abbrev shown_by : ℕ → List (List ℕ) → NodeLists
shown_by n lists = record { nodes = n; lists = lists }

pub empty_shown : (owner after first : List (Option ℕ)) (n m : ℕ) → owner ≡ replicate n None → after ≡ replicate n None → first ≡ replicate m None →
    shown_by (length owner) (lists_of (length owner) after first) ≡ shown_by n (replicate m [])
empty_shown owner after first n m is_o is_a is_f =
    let lists : lists_of (length owner) after first ≡ replicate m [] = rw (is_o, is_a, is_f) (lists_are _ _ (are_empty n m)) in
    let count : length owner ≡ n = ap (λ (t : List (Option ℕ)). length t) is_o ∙ length-replicate n None in
    ap (λ ls. shown_by (length owner) ls) lists ∙ ap (λ k. shown_by k (replicate m [])) count
