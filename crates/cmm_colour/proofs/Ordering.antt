-- The order in which all nodes are removed, and that its first ones are those that peel.
use Rattle.std.proofs.Common.{◌≡◌, inl, inr, ℕ, zero, suc, ◌<◌, ◌≤◌, ◌&&◌, ◌||◌, not, nat_lt, Bool, true, false, filter, List, [], ◌∷◌, ◌++◌, length, get_or, map, take, is_some, Option, Some, None, refl, sym, ◌∙◌, ap, subst, arith}
use Rattle.std.specs.Prelude.{◌↔◌}
use Rattle.std.specs.List.{range_with_len}
use Rattle.std.proofs.lemmas.Bool.{and_parts, or_from, cases_Bool, cases_eq, ltb-true, or_cases}
use Rattle.std.proofs.lemmas.List.{get_or_append_left, get_or_at, length_push, take_all, take-append-le}
use Rattle.cmm_ilist.specs.NodeLists.{NodeLists, front_of, has, list_at}
use Rattle.cmm_ilist.proofs.Shared.{few_below, fewer_nodes, front_is_in, has_here, has_later, has_range, has_split, filter_distinct, is_kept, kept_is, lacks_of}
use Rattle.cmm_colour.specs.Graphs.{IsUndirected, adjacent, row}
use Rattle.cmm_colour.specs.Peeling.{Peels, degree_left, is_peeling}
use Rattle.cmm_colour.specs.inside.Removing.{AreRemoved, AreSorted, IsLeft, IsNobody, degree_of, is_there, left_of}
use Rattle.cmm_colour.specs.inside.Simple.{AreOnce}
use Rattle.cmm_colour.proofs.Counting.{left_all}

-- ---- while nodes are removed

pub left_is_few : (rows : List (List ℕ)) (k : ℕ) (gone degrees : List ℕ) (l : NodeLists) → IsLeft rows k gone degrees l → length gone ≤ length rows
left_is_few rows k gone degrees l left = few_below (length rows) gone left.once left.gone_within

pub there_is_new : (rows : List (List ℕ)) (k : ℕ) (gone degrees : List ℕ) (l : NodeLists) (v : ℕ) → IsLeft rows k gone degrees l → is_there v l ≡ true → has v gone ≡ false
there_is_new rows k gone degrees l v left there = by (has v gone) (sym (left.there v (left.within v there)) ∙ there)
  where
    by : (b : Bool) → not b ≡ true → b ≡ false
    by true is = cc (is)
    by false is = refl

pub low_is_there : (v : ℕ) (l : NodeLists) → has v (list_at l.lists 0) ≡ true → is_there v l ≡ true
low_is_there v l is = ap (λ b. b || has v (list_at l.lists 1)) is

pub high_is_there : (v : ℕ) (l : NodeLists) → has v (list_at l.lists 1) ≡ true → is_there v l ≡ true
high_is_there v l is = by (has v (list_at l.lists 0))
  where
    by : (b : Bool) → (b || has v (list_at l.lists 1)) ≡ true
    by true = refl
    by false = is

-- a node is there where a list has it
pub is_left_by : (v : ℕ) (l : NodeLists) (o : Option ℕ) → length l.lists ≡ 2 → ((k : ℕ) → (o ≡ Some k) ↔ (has v (list_at l.lists k) ≡ true)) → is_some o ≡ is_there v l
is_left_by v l None two is = sym (or_from (has v (list_at l.lists 0)) (has v (list_at l.lists 1)) (none 0) (none 1))
  where
    none : (k : ℕ) → has v (list_at l.lists k) ≡ false
    none k = lacks_of (has v (list_at l.lists k)) (λ there. (let some = (is k).1 there in cc (some)))
is_left_by v l (Some zero) two is = sym (low_is_there v l ((is 0).0 refl))
is_left_by v l (Some (suc zero)) two is = sym (high_is_there v l ((is 1).0 refl))
is_left_by v l (Some (suc (suc k))) two is = past l.lists two ((is (suc (suc k))).0 refl)
  where
    past : (lists : List (List ℕ)) → length lists ≡ 2 → has v (list_at lists (suc (suc k))) ≡ true → true ≡ is_there v l
    past [] two there = absurd (omega (arith, two))
    past (a ∷ []) two there = absurd (omega (arith, two))
    past (a ∷ b ∷ []) two there = absurd (cc (there))
    past (a ∷ b ∷ c ∷ rest) two there = absurd (omega (arith, two))

-- at the start
pub left_at_start : (rows : List (List ℕ)) (k : ℕ) (degrees : List ℕ) (l : NodeLists) → degrees ≡ map length rows → AreSorted k degrees l → IsLeft rows k [] degrees l
left_at_start rows k degrees l are sorted = record {
  nodes = sorted.nodes ∙ size;
  lists = sorted.lists;
  sizes = size;
  within = λ v is. subst (λ n. v < n) size (sorted.within v is);
  gone_within = λ v is. absurd (cc (is));
  once = refl;
  there = λ v low. sorted.there v (subst (λ n. v < n) (sym size) low);
  degrees_are = λ v is. ap (λ ds. degree_of ds v) are ∙ (counted rows v ∙ sym (left_all (row rows v)));
  low = sorted.low;
  high = sorted.high;
}
  where
    long : (rows : List (List ℕ)) → length (map (λ (r : List ℕ). length r) rows) ≡ length rows
    long [] = refl
    long (r ∷ rows) = ap suc (long rows)

    size : length degrees ≡ length rows
    size = ap (λ (ds : List ℕ). length ds) are ∙ long rows

    counted : (rows : List (List ℕ)) (v : ℕ) → degree_of (map (λ (r : List ℕ). length r) rows) v ≡ length (row rows v)
    counted [] v = refl
    counted (r ∷ rows) zero = refl
    counted (r ∷ rows) (suc v) = counted rows v

-- each of the first ones had few neighbours left
abbrev pub HadFew : List (List ℕ) → ℕ → List ℕ → ℕ → Type 0
HadFew rows k order peeled = (j : ℕ) → j < peeled → left_of (take j order) (row rows (get_or order j 0)) < k

pub few_more : (rows : List (List ℕ)) (k : ℕ) (order degrees : List ℕ) (l : NodeLists) (v : ℕ) → IsLeft rows k order degrees l → front_of (list_at l.lists 0) ≡ Some v →
    HadFew rows k order (length order) → HadFew rows k (order ++ v ∷ []) (length (order ++ v ∷ []))
few_more rows k order degrees l v left front few j low = elim (cases_eq j (length order)) [
  | inl last ↦
      let in_low : has v (list_at l.lists 0) ≡ true = front_is_in v (list_at l.lists 0) front in
      let d : degree_of degrees v < k = left.low v in_low in
      let is : degree_of degrees v ≡ left_of order (row rows v) = left.degrees_are v (low_is_there v l in_low) in
      let taken : take j (order ++ v ∷ []) ≡ order = take-append-le j order (v ∷ []) (omega (arith, last)) ∙ take_all j order (omega (arith, last)) in
      let node : get_or (order ++ v ∷ []) j 0 ≡ v = get_or_at order v [] 0 j (sym last) in
      let here : left_of (take j (order ++ v ∷ [])) (row rows (get_or (order ++ v ∷ []) j 0)) ≡ left_of order (row rows v) =
      ap (λ q. left_of q (row rows (get_or (order ++ v ∷ []) j 0))) taken ∙ ap (λ n. left_of order (row rows n)) node in
      omega (arith, here, is, d)
  | inr other ↦
      let before : j < length order = omega (arith, low, other, length_push order v) in
      let taken : take j (order ++ v ∷ []) ≡ take j order = take-append-le j order (v ∷ []) (omega (arith, before)) in
      let node : get_or (order ++ v ∷ []) j 0 ≡ get_or order j 0 = get_or_append_left order (v ∷ []) 0 j before in
      let here : left_of (take j (order ++ v ∷ [])) (row rows (get_or (order ++ v ∷ []) j 0)) ≡ left_of (take j order) (row rows (get_or order j 0)) =
      ap (λ q. left_of q (row rows (get_or (order ++ v ∷ []) j 0))) taken ∙ ap (λ n. left_of (take j order) (row rows n)) node in
      omega (arith, here, few j before)
]

-- the first ones are the same once more are removed
pub few_still : (rows : List (List ℕ)) (k : ℕ) (order : List ℕ) (peeled v : ℕ) → peeled ≤ length order → HadFew rows k order peeled → HadFew rows k (order ++ v ∷ []) peeled
few_still rows k order peeled v front few j low =
    let before : j < length order = omega (arith, low, front) in
    let taken : take j (order ++ v ∷ []) ≡ take j order = take-append-le j order (v ∷ []) (omega (arith, before)) in
    let node : get_or (order ++ v ∷ []) j 0 ≡ get_or order j 0 = get_or_append_left order (v ∷ []) 0 j before in
    let here : left_of (take j (order ++ v ∷ [])) (row rows (get_or (order ++ v ∷ []) j 0)) ≡ left_of (take j order) (row rows (get_or order j 0)) =
    ap (λ q. left_of q (row rows (get_or (order ++ v ∷ []) j 0))) taken ∙ ap (λ n. left_of (take j order) (row rows n)) node in
    omega (arith, here, few j low)

-- none of the others has few
abbrev pub AreStuck : List (List ℕ) → ℕ → List ℕ → Type 0
AreStuck rows k front = (v : ℕ) → v < length rows → has v front ≡ false → k ≤ left_of front (row rows v)

pub stuck_at_end : (rows : List (List ℕ)) (k : ℕ) (order degrees : List ℕ) (l : NodeLists) → IsLeft rows k order degrees l → front_of (list_at l.lists 0) ≡ None → AreStuck rows k order
stuck_at_end rows k order degrees l left none v low new =
    let there : is_there v l ≡ true = left.there v low ∙ ap not new in
    let high : has v (list_at l.lists 1) ≡ true = elim (or_cases (has v (list_at l.lists 0)) (has v (list_at l.lists 1)) there) [
      | inl in_low ↦ absurd (nobody (list_at l.lists 0) none in_low)
      | inr in_high ↦ in_high
    ] in
    let d : k ≤ degree_of degrees v = left.high v high in
    let is : degree_of degrees v ≡ left_of order (row rows v) = left.degrees_are v there in
    omega (arith, d, is)
  where
    nobody : (xs : List ℕ) → front_of xs ≡ None → has v xs ≡ true → ⊥
    nobody [] none is = cc (is)
    nobody (x ∷ xs) none is = cc (none)

pub removed_at_end : (rows : List (List ℕ)) (k : ℕ) (order degrees : List ℕ) (l : NodeLists) (peeled : ℕ) → IsLeft rows k order degrees l → IsNobody l → peeled ≤ length order →
    HadFew rows k order peeled → AreStuck rows k (take peeled order) → AreRemoved rows k order peeled
removed_at_end rows k order degrees l peeled left nobody front few stuck = record {
  within = left.gone_within;
  once = left.once;
  all = λ v low. by (has v order) (sym (left.there v low) ∙ nobody v);
  few = few;
  front = front;
  stuck = stuck;
}
  where
    by : (b : Bool) → not b ≡ false → b ≡ true
    by true is = refl
    by false is = cc (is)

-- ---- what peels

-- a node of a list is at some place of it
pub find_in : (m v : ℕ) (xs : List ℕ) → has v (take m xs) ≡ true → (j : ℕ) × (j < m) × (get_or xs j 0 ≡ v)
find_in zero v xs is = absurd (cc (is))
find_in (suc m) v [] is = absurd (cc (is))
find_in (suc m) v (x ∷ xs) is = elim (has_split v x (take m xs) is) [
  | inl same ↦ (0, omega arith, same)
  | inr later ↦ let r = find_in m v xs later in (suc r.0, omega (arith, r.1), r.2)
]

module _ (graph rows : List (List ℕ)) (k : ℕ) (undirected : IsUndirected graph) (once : AreOnce graph rows) (front : List ℕ) (stuck : AreStuck rows k front) where
  more_left : (gone : List ℕ) (v : ℕ) → ((z : ℕ) → z < length graph → has z gone ≡ true → has z front ≡ true) → left_of front (row rows v) ≤ degree_left (length graph) (adjacent graph) gone v
  more_left gone v all =
      fewer_nodes (filter (λ w. not (has w front)) (row rows v))
      (filter (λ w. adjacent graph v w && not (has w gone)) (range_with_len 0 (length graph)))
      (filter_distinct (λ w. not (has w front)) (row rows v) (once.rows v).distinct)
      (λ z is. (let both = kept_is (λ w. not (has w front)) z (row rows v) is in
      let joined : adjacent graph v z ≡ true = sym ((once.rows v).same z) ∙ both.0 in
      let low : z < length graph = undirected.within v z joined in
      let still : has z gone ≡ false = lacks_of (has z gone) (λ was. (let now = all z low was in cc (ap not now, both.1))) in
      is_kept (λ w. adjacent graph v w && not (has w gone)) z (range_with_len 0 (length graph))
      (has_range (length graph) 0 z (omega arith) (omega (arith, low)))
      (ap (λ b. b && not (has z gone)) joined ∙ ap not still)))

  peeling_is_first : (gone vs : List ℕ) → ((z : ℕ) → z < length graph → has z gone ≡ true → has z front ≡ true) →
      is_peeling (length graph) (adjacent graph) k gone vs ≡ true → (z : ℕ) → z < length graph → has z vs ≡ true → has z front ≡ true
  peeling_is_first gone [] all peeling z low is = cc (is)
  peeling_is_first gone (v ∷ vs) all peeling z low is =
      let both = and_parts (nat_lt (degree_left (length graph) (adjacent graph) gone v) k) (is_peeling (length graph) (adjacent graph) k (v ∷ gone) vs) peeling in
      let few : degree_left (length graph) (adjacent graph) gone v < k = ltb-true (degree_left (length graph) (adjacent graph) gone v) k both.0 in
      let here : v < length graph → has v front ≡ true = λ in_it. (elim (cases_Bool (has v front)) [
        | inl yes_ ↦ yes_
        | inr no_ ↦
            let many : k ≤ left_of front (row rows v) = stuck v (subst (λ n. v < n) (sym once.size) in_it) no_ in
            let more : left_of front (row rows v) ≤ degree_left (length graph) (adjacent graph) gone v = more_left gone v all in
            absurd (omega (arith, many, more, few))
      ]) in
      elim (has_split z v vs is) [
        | inl same ↦ ap (λ n. has n front) (sym same) ∙ here (subst (λ n. n < length graph) (sym same) low)
        | inr later ↦ peeling_is_first (v ∷ gone) vs
            (λ u low_u in_it. elim (has_split u v gone in_it) [
              | inl same ↦ ap (λ n. has n front) (sym same) ∙ here (subst (λ n. n < length graph) (sym same) low_u)
              | inr was ↦ all u low_u was
            ]) both.1 z low later
      ]

  pub peels_is_first : (v : ℕ) → v < length graph → Peels (length graph) (adjacent graph) k v → has v front ≡ true
  peels_is_first v low peels =
      peeling_is_first [] (peels.earlier ++ v ∷ []) (λ z l is. cc (is)) peels.peeling v low (at_end peels.earlier)
    where
      at_end : (xs : List ℕ) → has v (xs ++ v ∷ []) ≡ true
      at_end [] = has_here v []
      at_end (x ∷ xs) = has_later v x (xs ++ v ∷ []) (at_end xs)
