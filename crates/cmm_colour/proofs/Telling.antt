-- A node is removed: its neighbours have one neighbour less.
use Rattle.std.proofs.Common.{◌≡◌, ◌≢◌, inl, inr, ℕ, zero, suc, ◌+◌, ◌-◌, ◌<◌, ◌≤◌, ◌==◌, ◌||◌, not, Bool, true, false, List, [], ◌∷◌, ◌++◌, length, get_or, set, map, take, refl, sym, ◌∙◌, ap, subst, arith}
use Rattle.std.proofs.lemmas.Bool.{cases_eq, eqb-true, eqb-false, or_cases, or_left, or_right}
use Rattle.std.proofs.lemmas.List.{get_or-set_other, get_or-set_same, length-map, length-set, take_more}
use Rattle.cmm_ilist.specs.NodeLists.{NodeLists, has, is_distinct, is_in_some, list_at, without}
use Rattle.cmm_ilist.proofs.Shared.{apart, at_map, has_none, distinct_first, distinct_rest, has_skip, left_was, pushed_distinct, without_has, without_lacks, has_end}
use Rattle.cmm_colour.specs.Graphs.{adjacent, row}
use Rattle.cmm_colour.specs.inside.Removing.{AreSimple, IsLeft, IsTelling, degree_of, is_there, left_of, lowered_degrees, lowered_lists, moved, one_if}
use Rattle.cmm_colour.proofs.Counting.{has_last_other, left_more}
use Rattle.cmm_colour.proofs.Noting.{has_at}

-- ---- a node is taken out of its list

pub there_without : (x z : ℕ) (n : ℕ) (lists : List (List ℕ)) → z ≢ x → is_there z (record { nodes = n; lists = map (without x) lists }) ≡ is_there z (record { nodes = n; lists = lists })
there_without x z n lists other =
    let at : (k : ℕ) → has z (list_at (map (without x) lists) k) ≡ has z (list_at lists k) = λ k. ap (has z) (at_map x lists k) ∙ without_has x z (list_at lists k) other in
    ap (λ b. b || has z (list_at (map (without x) lists) 1)) (at 0) ∙ ap (λ b. has z (list_at lists 0) || b) (at 1)

pub gone_without : (x n : ℕ) (lists : List (List ℕ)) → is_there x (record { nodes = n; lists = map (without x) lists }) ≡ false
gone_without x n lists =
    let at : (k : ℕ) → has x (list_at (map (without x) lists) k) ≡ false = λ k. ap (has x) (at_map x lists k) ∙ without_lacks x (list_at lists k) in
    ap (λ b. b || has x (list_at (map (without x) lists) 1)) (at 0) ∙ at 1

module _ (rows : List (List ℕ)) (k : ℕ) (simple : AreSimple rows) where
  -- no neighbour knows it yet
  pub told_none : (gone degrees : List ℕ) (l : NodeLists) (v : ℕ) → IsLeft rows k gone degrees l → is_there v l ≡ true →
      IsTelling rows k gone v [] degrees (record { nodes = l.nodes; lists = map (without v) l.lists })
  told_none gone degrees l v left there = record {
    nodes = left.nodes;
    lists = length-map l.lists (without v) ∙ left.lists;
    sizes = left.sizes;
    within = λ z is. left.within z (was z is);
    there = λ z low. elim (cases_eq z v) [
      | inl same ↦ ap (λ u. is_there u (record { nodes = l.nodes; lists = map (without v) l.lists })) same ∙ (gone_without v l.nodes l.lists
          ∙ sym (ap not (ap (λ u. has u (gone ++ v ∷ [])) same ∙ has_end v gone)))
      | inr other ↦ there_without v z l.nodes l.lists other ∙ (left.there z low ∙ ap not (sym (has_last_other v z gone (λ e. other (sym e)))))
    ];
    degrees_are = λ z is. (let d : degree_of degrees z ≡ left_of gone (row rows z) = left.degrees_are z (was z is) in omega (arith, d));
    low = λ z is. left.low z (left_was v z (list_at l.lists 0) (sym (ap (has z) (at_map v l.lists 0)) ∙ is)).1;
    high = λ z is. left.high z (left_was v z (list_at l.lists 1) (sym (ap (has z) (at_map v l.lists 1)) ∙ is)).1;
  }
    where
      was : (z : ℕ) → is_there z (record { nodes = l.nodes; lists = map (without v) l.lists }) ≡ true → is_there z l ≡ true
      was z is = elim (cases_eq z v) [
        | inl same ↦ ap (λ u. is_there u l) same ∙ there
        | inr other ↦ sym (there_without v z l.nodes l.lists other) ∙ is
      ]

  -- all know it
  pub told_all : (gone degrees : List ℕ) (l : NodeLists) (v : ℕ) → v < length rows → has v gone ≡ false → is_distinct gone ≡ true →
      ((z : ℕ) → has z gone ≡ true → z < length rows) → IsTelling rows k gone v (row rows v) degrees l → IsLeft rows k (gone ++ v ∷ []) degrees l
  told_all gone degrees l v low new once within telling = record {
    nodes = telling.nodes;
    lists = telling.lists;
    sizes = telling.sizes;
    within = telling.within;
    gone_within = λ z is. elim (cases_eq v z) [
      | inl same ↦ subst (λ u. u < length rows) same low
      | inr other ↦ within z (sym (has_last_other v z gone other) ∙ is)
    ];
    once = pushed_distinct v gone new once;
    there = telling.there;
    degrees_are = λ z is. (
        let told : degree_of degrees z + one_if (has z (row rows v)) ≡ left_of gone (row rows z) = telling.degrees_are z is in
        let more : left_of (gone ++ v ∷ []) (row rows z) + one_if (has v (row rows z)) ≡ left_of gone (row rows z) = left_more gone v (row rows z) new (simple.distinct z) in
        let same : one_if (has v (row rows z)) ≡ one_if (has z (row rows v)) = ap one_if (both v z) in
        omega (arith, told, more, same));
    low = telling.low;
    high = telling.high;
  }
    where
      both : (v z : ℕ) → has v (row rows z) ≡ has z (row rows v)
      both v z = by (has v (row rows z)) (has z (row rows v)) refl refl
        where
          by : (b c : Bool) → has v (row rows z) ≡ b → has z (row rows v) ≡ c → has v (row rows z) ≡ has z (row rows v)
          by true c is other = is ∙ sym (simple.undirected.both z v is)
          by false true is other = let there : has v (row rows z) ≡ true = simple.undirected.both v z other in absurd (cc (is, there))
          by false false is other = is ∙ sym other

  -- a neighbour that is there has a neighbour that is still counted
  pub some_left : (gone : List ℕ) (v : ℕ) (told degrees : List ℕ) (l : NodeLists) (w : ℕ) → IsTelling rows k gone v told degrees l → has v gone ≡ false → adjacent rows v w ≡ true →
      has w told ≡ false → is_there w l ≡ true → 1 ≤ degree_of degrees w
  some_left gone v told degrees l w telling new joined untold there =
      let d : degree_of degrees w + one_if (has w told) ≡ left_of gone (row rows w) = telling.degrees_are w there in
      let none : one_if (has w told) ≡ 0 = ap one_if untold in
      let more : left_of (gone ++ v ∷ []) (row rows w) + one_if (has v (row rows w)) ≡ left_of gone (row rows w) = left_more gone v (row rows w) new (simple.distinct w) in
      let one : one_if (has v (row rows w)) ≡ 1 = ap one_if (simple.undirected.both v w joined) in
      omega (arith, d, none, more, one)

  -- one more knows it
  module _ (gone : List ℕ) (v : ℕ) (told degrees : List ℕ) (l : NodeLists) (w : ℕ) (telling : IsTelling rows k gone v told degrees l) (new : has v gone ≡ false)
      (joined : adjacent rows v w ≡ true) (untold : has w told ≡ false) where
    -- one that is gone
    told_gone : is_there w l ≡ false → IsTelling rows k gone v (told ++ w ∷ []) degrees l
    told_gone absent = record {
      nodes = telling.nodes;
      lists = telling.lists;
      sizes = telling.sizes;
      within = telling.within;
      there = telling.there;
      degrees_are = λ z is. (
          let other : w ≢ z = λ same. (let none : is_there z l ≡ false = ap (λ u. is_there u l) (sym same) ∙ absent in cc (none, is)) in
          let d : degree_of degrees z + one_if (has z told) ≡ left_of gone (row rows z) = telling.degrees_are z is in
          let same : one_if (has z (told ++ w ∷ [])) ≡ one_if (has z told) = ap one_if (has_last_other w z told other) in
          omega (arith, d, same));
      low = telling.low;
      high = telling.high;
    }

    abbrev fewer : List ℕ
    fewer = set degrees w (degree_of degrees w - 1)

    low_w : w < length rows
    low_w = simple.undirected.within v w joined

    fewer_here : degree_of fewer w ≡ degree_of degrees w - 1
    fewer_here = get_or-set_same degrees w (degree_of degrees w - 1) 0 (subst (λ n. w < n) (sym telling.sizes) low_w)

    fewer_away : (z : ℕ) → z ≢ w → degree_of fewer z ≡ degree_of degrees z
    fewer_away z other = get_or-set_other degrees w z (degree_of degrees w - 1) 0 other

    degrees_told : is_there w l ≡ true → (z : ℕ) → is_there z l ≡ true → degree_of fewer z + one_if (has z (told ++ w ∷ [])) ≡ left_of gone (row rows z)
    degrees_told there z is = elim (cases_eq z w) [
      | inl same ↦
          let d : degree_of degrees w + one_if (has w told) ≡ left_of gone (row rows w) = telling.degrees_are w there in
          let none : one_if (has w told) ≡ 0 = ap one_if untold in
          let some : 1 ≤ degree_of degrees w = some_left gone v told degrees l w telling new joined untold there in
          let one : one_if (has w (told ++ w ∷ [])) ≡ 1 = ap one_if (has_end w told) in
          let here : degree_of fewer w + one_if (has w (told ++ w ∷ [])) ≡ left_of gone (row rows w) = omega (arith, d, none, some, one, fewer_here) in
          ap (λ u. degree_of fewer u + one_if (has u (told ++ w ∷ []))) same ∙ (here ∙ ap (λ u. left_of gone (row rows u)) (sym same))
      | inr other ↦
          let d : degree_of degrees z + one_if (has z told) ≡ left_of gone (row rows z) = telling.degrees_are z is in
          let same : one_if (has z (told ++ w ∷ [])) ≡ one_if (has z told) = ap one_if (has_last_other w z told (λ e. other (sym e))) in
          omega (arith, d, same, fewer_away z other)
    ]

    -- one that keeps its list
    told_here : is_there w l ≡ true → degree_of degrees w ≢ k → IsTelling rows k gone v (told ++ w ∷ []) fewer l
    told_here there other_ = record {
      nodes = telling.nodes;
      lists = telling.lists;
      sizes = length-set degrees w (degree_of degrees w - 1) ∙ telling.sizes;
      within = telling.within;
      there = telling.there;
      degrees_are = degrees_told there;
      low = λ z is. elim (cases_eq z w) [
        | inl same ↦ subst (λ u. degree_of fewer u < k) (sym same)
            (let d : degree_of degrees w < k = telling.low w (ap (λ u. has u (list_at l.lists 0)) (sym same) ∙ is) in omega (arith, d, fewer_here))
        | inr other ↦ let d : degree_of degrees z < k = telling.low z is in omega (arith, d, fewer_away z other)
      ];
      high = λ z is. elim (cases_eq z w) [
        | inl same ↦ subst (λ u. k ≤ degree_of fewer u) (sym same)
            (let d : k ≤ degree_of degrees w = telling.high w (ap (λ u. has u (list_at l.lists 1)) (sym same) ∙ is) in omega (arith, d, other_, fewer_here))
        | inr other ↦ let d : k ≤ degree_of degrees z = telling.high z is in omega (arith, d, fewer_away z other)
      ];
    }

    abbrev after : NodeLists
    after = record { nodes = l.nodes; lists = moved w l.lists }

    mapped : length (map (without w) l.lists) ≡ 2
    mapped = length-map l.lists (without w) ∙ telling.lists

    low_now : list_at (moved w l.lists) 0 ≡ without w (list_at l.lists 0) ++ w ∷ []
    low_now = get_or-set_same (map (without w) l.lists) 0 (without w (list_at l.lists 0) ++ w ∷ []) [] (omega (arith, mapped))

    high_now : list_at (moved w l.lists) 1 ≡ without w (list_at l.lists 1)
    high_now = get_or-set_other (map (without w) l.lists) 0 1 (without w (list_at l.lists 0) ++ w ∷ []) [] (λ e. omega (arith, e)) ∙ at_map w l.lists 1

    there_now : is_there w l ≡ true → (z : ℕ) → is_there z after ≡ is_there z l
    there_now there z = elim (cases_eq z w) [
      | inl same ↦
          let here : is_there w after ≡ true = or_left (has w (list_at (moved w l.lists) 0)) (has w (list_at (moved w l.lists) 1)) (ap (has w) low_now ∙ has_end w (without w (list_at l.lists 0))) in
          ap (λ u. is_there u after) same ∙ (here ∙ sym (ap (λ u. is_there u l) same ∙ there))
      | inr other ↦
          let a : has z (list_at (moved w l.lists) 0) ≡ has z (list_at l.lists 0) =
          ap (has z) low_now ∙ (has_last_other w z (without w (list_at l.lists 0)) (λ e. other (sym e)) ∙ without_has w z (list_at l.lists 0) other) in
          let b : has z (list_at (moved w l.lists) 1) ≡ has z (list_at l.lists 1) = ap (has z) high_now ∙ without_has w z (list_at l.lists 1) other in
          ap (λ c. c || has z (list_at (moved w l.lists) 1)) a ∙ ap (λ c. has z (list_at l.lists 0) || c) b
    ]

    -- one that changes its list
    told_moved : is_there w l ≡ true → degree_of degrees w ≡ k → IsTelling rows k gone v (told ++ w ∷ []) fewer after
    told_moved there is_k = record {
      nodes = telling.nodes;
      lists = length-set (map (without w) l.lists) 0 (without w (list_at l.lists 0) ++ w ∷ []) ∙ mapped;
      sizes = length-set degrees w (degree_of degrees w - 1) ∙ telling.sizes;
      within = λ z is. telling.within z (sym (there_now there z) ∙ is);
      there = λ z low. there_now there z ∙ telling.there z low;
      degrees_are = λ z is. degrees_told there z (sym (there_now there z) ∙ is);
      low = λ z is. elim (cases_eq z w) [
        | inl same ↦ subst (λ u. degree_of fewer u < k) (sym same)
            (let some : 1 ≤ degree_of degrees w = some_left gone v told degrees l w telling new joined untold there in omega (arith, some, is_k, fewer_here))
        | inr other ↦
            let was : has z (list_at l.lists 0) ≡ true = sym (ap (has z) low_now ∙ (has_last_other w z (without w (list_at l.lists 0)) (λ e. other (sym e)) ∙ without_has w z (list_at l.lists 0) other)) ∙ is in
            let d : degree_of degrees z < k = telling.low z was in omega (arith, d, fewer_away z other)
      ];
      high = λ z is. (
          let was : (z ≢ w) × (has z (list_at l.lists 1) ≡ true) = left_was w z (list_at l.lists 1) (sym (ap (has z) high_now) ∙ is) in
          let d : k ≤ degree_of degrees z = telling.high z was.1 in omega (arith, d, fewer_away z was.0));
    }

    pub told_more : IsTelling rows k gone v (told ++ w ∷ []) (lowered_degrees w l degrees) (record { nodes = l.nodes; lists = lowered_lists k w l degrees })
    told_more = by (is_there w l) refl
      where
        Goal : List ℕ → List (List ℕ) → Type 0
        Goal ds ls = IsTelling rows k gone v (told ++ w ∷ []) ds (record { nodes = l.nodes; lists = ls })

        by : (b : Bool) → is_there w l ≡ b → Goal (lowered_degrees w l degrees) (lowered_lists k w l degrees)
        by true there = subst (λ (b : Bool). Goal (elim b as (λ _. List ℕ) [ true ↦ fewer | false ↦ degrees ])
            (elim b as (λ _. List (List ℕ)) [ true ↦ elim (degree_of degrees w == k) as (λ _. List (List ℕ)) [ true ↦ moved w l.lists | false ↦ l.lists ] | false ↦ l.lists ])) (sym there)
            (by_degree (degree_of degrees w == k) refl)
          where
            by_degree : (c : Bool) → (degree_of degrees w == k) ≡ c → Goal fewer (elim (degree_of degrees w == k) as (λ _. List (List ℕ)) [ true ↦ moved w l.lists | false ↦ l.lists ])
            by_degree true is = subst (λ (c : Bool). Goal fewer (elim c as (λ _. List (List ℕ)) [ true ↦ moved w l.lists | false ↦ l.lists ])) (sym is)
                (told_moved there (eqb-true (degree_of degrees w) k is))
            by_degree false is = subst (λ (c : Bool). Goal fewer (elim c as (λ _. List (List ℕ)) [ true ↦ moved w l.lists | false ↦ l.lists ])) (sym is)
                (told_here there (eqb-false (degree_of degrees w) k is))
        by false absent = subst (λ (b : Bool). Goal (elim b as (λ _. List ℕ) [ true ↦ fewer | false ↦ degrees ])
            (elim b as (λ _. List (List ℕ)) [ true ↦ elim (degree_of degrees w == k) as (λ _. List (List ℕ)) [ true ↦ moved w l.lists | false ↦ l.lists ] | false ↦ l.lists ])) (sym absent)
            (told_gone absent)

-- what is read of the next neighbour
pub next_row : (rows : List (List ℕ)) (v i : ℕ) (items : List ℕ) → items ≡ row rows v → i < length items → take (i + 1) (row rows v) ≡ take i (row rows v) ++ get_or items i 0 ∷ []
next_row rows v i items is low = subst (λ l. take (i + 1) l ≡ take i l ++ get_or items i 0 ∷ []) is (take_more items i 0 low)

pub next_joined : (rows : List (List ℕ)) (v i : ℕ) (items : List ℕ) → items ≡ row rows v → i < length items → adjacent rows v (get_or items i 0) ≡ true
next_joined rows v i items is low = ap (has (get_or items i 0)) (sym is) ∙ has_at items i 0 low

pub next_untold : (rows : List (List ℕ)) (v i : ℕ) (items : List ℕ) → items ≡ row rows v → i < length items → is_distinct (row rows v) ≡ true → has (get_or items i 0) (take i (row rows v)) ≡ false
next_untold rows v i items is low distinct =
    subst (λ l. has (get_or items i 0) (take i l) ≡ false) is (untold items i low (subst (λ l. is_distinct l ≡ true) (sym is) distinct))
  where
    untold : (xs : List ℕ) (i : ℕ) → i < length xs → is_distinct xs ≡ true → has (get_or xs i 0) (take i xs) ≡ false
    untold [] i low distinct = absurd (omega (arith, low))
    untold (x ∷ xs) zero low distinct = refl
    untold (x ∷ xs) (suc i) low distinct =
        has_skip (get_or xs i 0) x (take i xs) (apart x (get_or xs i 0) xs (distinct_first x xs distinct) (has_at xs i 0 (omega (arith, low)))) ∙ untold xs i (omega (arith, low)) (distinct_rest x xs distinct)

pub step_told : (rows : List (List ℕ)) (k : ℕ) (gone : List ℕ) (v i : ℕ) (items degrees new : List ℕ) (l after : NodeLists) → AreSimple rows → has v gone ≡ false → items ≡ row rows v → i < length items →
    IsTelling rows k gone v (take i (row rows v)) degrees l → new ≡ lowered_degrees (get_or items i 0) l degrees → after.nodes ≡ l.nodes → after.lists ≡ lowered_lists k (get_or items i 0) l degrees →
    IsTelling rows k gone v (take (i + 1) (row rows v)) new after
step_told rows k gone v i items degrees new l after simple fresh is low telling news nodes lists =
    subst (λ q. IsTelling rows k gone v q new after) (sym (next_row rows v i items is low))
    (subst (λ q. IsTelling rows k gone v (take i (row rows v) ++ get_or items i 0 ∷ []) q after) (sym news)
    (subst (λ q. IsTelling rows k gone v (take i (row rows v) ++ get_or items i 0 ∷ []) (lowered_degrees (get_or items i 0) l degrees) q) (shown_is after l nodes lists)
    (told_more rows k simple gone v (take i (row rows v)) degrees l (get_or items i 0) telling fresh (next_joined rows v i items is low)
    (next_untold rows v i items is low (simple.distinct v)))))
  where
    shown_is : (s l : NodeLists) → s.nodes ≡ l.nodes → s.lists ≡ lowered_lists k (get_or items i 0) l degrees → record { nodes = l.nodes; lists = lowered_lists k (get_or items i 0) l degrees } ≡ s
    shown_is s l nodes lists = sym (ap (λ n. record { nodes = n; lists = s.lists }) nodes ∙ ap (λ ls. record { nodes = l.nodes; lists = ls }) lists)

pub shown_without : (v : ℕ) (l after : NodeLists) → after.nodes ≡ l.nodes → after.lists ≡ map (without v) l.lists → record { nodes = l.nodes; lists = map (without v) l.lists } ≡ after
shown_without v l after nodes lists = sym (ap (λ n. record { nodes = n; lists = after.lists }) nodes ∙ ap (λ ls. record { nodes = l.nodes; lists = ls }) lists)

-- a node that is in one of two lists is in some
pub there_in_some : (v : ℕ) (lists : List (List ℕ)) (n : ℕ) → length lists ≡ 2 → is_there v (record { nodes = n; lists = lists }) ≡ true → is_in_some v lists ≡ true
there_in_some v [] n two there = absurd (cc (there))
there_in_some v (a ∷ []) n two there = absurd (omega (arith, two))
there_in_some v (a ∷ b ∷ rest) n two there = elim (or_cases (has v a) (has v b) there) [
  | inl first ↦ or_left (has v a) (has v b || is_in_some v rest) first
  | inr second ↦ or_right (has v a) (has v b || is_in_some v rest) (or_left (has v b) (is_in_some v rest) second)
]

pub free_without : (v : ℕ) (lists new : List (List ℕ)) → new ≡ map (without v) lists → is_in_some v new ≡ false
free_without v lists new is =
    has_none v new (λ k. ap (λ (ls : List (List ℕ)). has v (list_at ls k)) is ∙ (ap (has v) (at_map v lists k) ∙ without_lacks v (list_at lists k)))
