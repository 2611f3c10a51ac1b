-- Colours are chosen.
use Rattle.std.proofs.Common.{◌≡◌, ◌⊎◌, inl, inr, ℕ, zero, suc, ◌+◌, ◌-◌, ◌<◌, ◌≤◌, ◌&&◌, not, Bool, true, false, List, [], ◌∷◌, ◌++◌, length, get_or, set, take, drop, replicate, is_some, Option, Some, None, refl, sym, ◌∙◌, ap, subst, arith}
use Rattle.std.proofs.lemmas.Bool.{cases_Bool, cases_eq}
use Rattle.std.proofs.lemmas.List.{get_or-set_other, get_or-set_same, length-set, length-replicate, append-nil}
use Rattle.std.proofs.lemmas.Option.{same_Some}
use Rattle.cmm_ilist.specs.NodeLists.{has, is_distinct}
use Rattle.cmm_ilist.proofs.Shared.{fewer_nodes, apart, distinct_first, distinct_rest, has_here, has_later, has_skip, has_split, filter_drops, filter_keeps, has_end, lacks_of, replicate_at}
use Rattle.cmm_colour.specs.Colours.{colour_of}
use Rattle.cmm_colour.specs.Graphs.{adjacent, row}
use Rattle.cmm_colour.specs.inside.Choosing.{AreChosen, IsTaken, colours_of}
use Rattle.cmm_colour.specs.inside.Removing.{AreRemoved, AreSimple, left_of}
use Rattle.cmm_colour.proofs.Counting.{has_last_other}
use Rattle.std.specs.List.{range_with_len}
use Rattle.std.specs.Prelude.{MatchOption}
use Rattle.cmm_colour.proofs.Noting.{has_at}
use Rattle.std.proofs.lemmas.List.FromFn.{length-range_with_len}

-- ---- the colours that nodes have

pub colours_with : (v c : ℕ) (vs : List ℕ) (colours : List (Option ℕ)) → colour_of colours v ≡ Some c → colours_of (v ∷ vs) colours ≡ c ∷ colours_of vs colours
colours_with v c vs colours is = ap (λ (o : Option ℕ). elim o as (λ _. List ℕ) [ Some c ↦ c ∷ colours_of vs colours | None ↦ colours_of vs colours ]) is

pub colours_without : (v : ℕ) (vs : List ℕ) (colours : List (Option ℕ)) → colour_of colours v ≡ None → colours_of (v ∷ vs) colours ≡ colours_of vs colours
colours_without v vs colours is = ap (λ (o : Option ℕ). elim o as (λ _. List ℕ) [ Some c ↦ c ∷ colours_of vs colours | None ↦ colours_of vs colours ]) is

cases_colour : (o : Option ℕ) → (o ≡ None) ⊎ ((c : ℕ) × (o ≡ Some c))
cases_colour None = inl refl
cases_colour (Some c) = inr (c, refl)

pub none_of : (o : Option ℕ) → ((c : ℕ) → o ≡ Some c → ⊥) → o ≡ None
none_of None never = refl
none_of (Some c) never = absurd (never c refl)

-- one of a node in a list is among them
pub colour_is_among : (w c : ℕ) (vs : List ℕ) (colours : List (Option ℕ)) → has w vs ≡ true → colour_of colours w ≡ Some c → has c (colours_of vs colours) ≡ true
colour_is_among w c [] colours there is = cc (there)
colour_is_among w c (v ∷ vs) colours there is = elim (has_split w v vs there) [
  | inl same ↦ ap (has c) (colours_with v c vs colours (ap (colour_of colours) same ∙ is)) ∙ has_here c (colours_of vs colours)
  | inr later ↦
      let rest : has c (colours_of vs colours) ≡ true = colour_is_among w c vs colours later is in elim (cases_colour (colour_of colours v)) [
        | inl none ↦ ap (has c) (colours_without v vs colours none) ∙ rest
        | inr some ↦ ap (has c) (colours_with v some.0 vs colours some.1) ∙ has_later c some.0 (colours_of vs colours) rest
      ]
]

-- they are no more than the nodes that are left, where none of those that are gone has one
pub few_colours : (gone vs : List ℕ) (colours : List (Option ℕ)) → ((w : ℕ) → is_some (colour_of colours w) ≡ true → has w gone ≡ false) →
    length (colours_of vs colours) ≤ left_of gone vs
few_colours gone [] colours apart_ = omega arith
few_colours gone (v ∷ vs) colours apart_ = by (cases_colour (colour_of colours v)) (cases_Bool (has v gone)) (few_colours gone vs colours apart_)
  where
    by : ((colour_of colours v ≡ None) ⊎ ((c : ℕ) × (colour_of colours v ≡ Some c))) → ((has v gone ≡ true) ⊎ (has v gone ≡ false)) →
        length (colours_of vs colours) ≤ left_of gone vs → length (colours_of (v ∷ vs) colours) ≤ left_of gone (v ∷ vs)
    by (inl none) (inl is) rest =
        let a : length (colours_of (v ∷ vs) colours) ≡ length (colours_of vs colours) = ap (λ (l : List ℕ). length l) (colours_without v vs colours none) in
        let b : left_of gone (v ∷ vs) ≡ left_of gone vs = ap (λ (l : List ℕ). length l) (filter_drops (λ u. not (has u gone)) v vs (ap not is)) in
        omega (arith, a, b, rest)
    by (inl none) (inr lacks) rest =
        let a : length (colours_of (v ∷ vs) colours) ≡ length (colours_of vs colours) = ap (λ (l : List ℕ). length l) (colours_without v vs colours none) in
        let b : left_of gone (v ∷ vs) ≡ suc (left_of gone vs) = ap (λ (l : List ℕ). length l) (filter_keeps (λ u. not (has u gone)) v vs (ap not lacks)) in
        omega (arith, a, b, rest)
    by (inr some) cases rest =
        let lacks : has v gone ≡ false = apart_ v (ap (λ (o : Option ℕ). is_some o) some.1) in
        let a : length (colours_of (v ∷ vs) colours) ≡ suc (length (colours_of vs colours)) = ap (λ (l : List ℕ). length l) (colours_with v some.0 vs colours some.1) in
        let b : left_of gone (v ∷ vs) ≡ suc (left_of gone vs) = ap (λ (l : List ℕ). length l) (filter_keeps (λ u. not (has u gone)) v vs (ap not lacks)) in
        omega (arith, a, b, rest)

-- where all colours below a count are among some, these are as many
pub all_among : (k : ℕ) (cs : List ℕ) → ((c : ℕ) → c < k → has c cs ≡ true) → k ≤ length cs
all_among k cs all =
    let few : length (range_with_len 0 k) ≤ length cs = fewer_nodes (range_with_len 0 k) cs (distinct k 0) (λ z is. (let low : z < 0 + k = bounded k 0 z is in all z (omega (arith, low)))) in
    omega (arith, few, length-range_with_len 0 k)
  where
    from : (n a z : ℕ) → has z (range_with_len a n) ≡ true → a ≤ z
    from zero a z is = absurd (cc (is))
    from (suc n) a z is = elim (has_split z a (range_with_len (a + 1) n) is) [
      | inl same ↦ omega (arith, same)
      | inr later ↦ let h : a + 1 ≤ z = from n (a + 1) z later in omega (arith, h)
    ]

    bounded : (n a z : ℕ) → has z (range_with_len a n) ≡ true → z < a + n
    bounded zero a z is = absurd (cc (is))
    bounded (suc n) a z is = elim (has_split z a (range_with_len (a + 1) n) is) [
      | inl same ↦ omega (arith, same)
      | inr later ↦ let h : z < a + 1 + n = bounded n (a + 1) z later in omega (arith, h)
    ]

    distinct : (n a : ℕ) → is_distinct (range_with_len a n) ≡ true
    distinct zero a = refl
    distinct (suc n) a =
        let none : has a (range_with_len (a + 1) n) ≡ false = lacks_of (has a (range_with_len (a + 1) n)) (λ is. (let h : a + 1 ≤ a = from n (a + 1) a is in omega (arith, h))) in
        ap (λ b. not b && is_distinct (range_with_len (a + 1) n)) none ∙ distinct n (a + 1)

-- ---- marks

pub none_taken : (k : ℕ) (colours : List (Option ℕ)) → IsTaken k [] colours (replicate k false)
none_taken k colours = record { size = length-replicate k false; marks = λ c low. replicate_at false k c }

-- the colours of a list with one node more
colours_last : (vs : List ℕ) (v : ℕ) (colours : List (Option ℕ)) → colours_of (vs ++ v ∷ []) colours ≡ colours_of vs colours ++ colours_of (v ∷ []) colours
colours_last [] v colours = refl
colours_last (u ∷ vs) v colours = elim (cases_colour (colour_of colours u)) [
  | inl none ↦ colours_without u (vs ++ v ∷ []) colours none ∙ (colours_last vs v colours ∙ ap (λ l. l ++ colours_of (v ∷ []) colours) (sym (colours_without u vs colours none)))
  | inr some ↦ colours_with u some.0 (vs ++ v ∷ []) colours some.1 ∙ (ap (λ l. some.0 ∷ l) (colours_last vs v colours)
      ∙ ap (λ l. l ++ colours_of (v ∷ []) colours) (sym (colours_with u some.0 vs colours some.1)))
]

pub taken_none : (k : ℕ) (vs : List ℕ) (v : ℕ) (colours : List (Option ℕ)) (taken : List Bool) → IsTaken k vs colours taken → colour_of colours v ≡ None →
    IsTaken k (vs ++ v ∷ []) colours taken
taken_none k vs v colours taken is none = record {
  size = is.size;
  marks = λ c low. is.marks c low ∙ ap (has c) (sym (colours_last vs v colours ∙ (ap (λ l. colours_of vs colours ++ l) (colours_without v [] colours none) ∙ append-nil (colours_of vs colours))));
}

pub taken_one : (k : ℕ) (vs : List ℕ) (v d : ℕ) (colours : List (Option ℕ)) (taken : List Bool) → IsTaken k vs colours taken → colour_of colours v ≡ Some d → d < k →
    IsTaken k (vs ++ v ∷ []) colours (set taken d true)
taken_one k vs v d colours taken is some below = record {
  size = length-set taken d true ∙ is.size;
  marks = λ c low. marks c low (cases_eq c d);
}
  where
    list : colours_of (vs ++ v ∷ []) colours ≡ colours_of vs colours ++ d ∷ []
    list = colours_last vs v colours ∙ ap (λ l. colours_of vs colours ++ l) (colours_with v d [] colours some)

    marks : (c : ℕ) → c < k → ((c ≡ d) ⊎ (c ≡ d → ⊥)) → get_or (set taken d true) c false ≡ has c (colours_of (vs ++ v ∷ []) colours)
    marks c low (inl same) = ap (λ n. get_or (set taken d true) n false) same ∙ (get_or-set_same taken d true false (subst (λ n. d < n) (sym is.size) below)
        ∙ sym (ap (λ n. has n (colours_of (vs ++ v ∷ []) colours)) same ∙ (ap (has d) list ∙ has_end d (colours_of vs colours))))
    marks c low (inr other) = get_or-set_other taken d c true false other ∙ (is.marks c low ∙ sym (ap (has c) list ∙ has_last_other d c (colours_of vs colours) (λ e. other (sym e))))

-- ---- from the end of the order on

-- what stands at a place is in none of the places behind it, nor in those before
pub split_at : (i d : ℕ) (xs : List ℕ) → i < length xs → is_distinct xs ≡ true → (z : ℕ) → has z (drop i xs) ≡ true → has z (take i xs) ≡ false
split_at zero d xs low distinct z is = refl
split_at (suc i) d [] low distinct z is = absurd (omega (arith, low))
split_at (suc i) d (x ∷ xs) low distinct z is =
    let rest : has z (take i xs) ≡ false = split_at i d xs (omega (arith, low)) (distinct_rest x xs distinct) z is in
    has_skip z x (take i xs) (apart x z xs (distinct_first x xs distinct) (dropped i xs z is)) ∙ rest
  where
    dropped : (i : ℕ) (xs : List ℕ) (z : ℕ) → has z (drop i xs) ≡ true → has z xs ≡ true
    dropped zero xs z is = is
    dropped (suc i) [] z is = is
    dropped (suc i) (x ∷ xs) z is = has_later z x xs (dropped i xs z is)

pub drop_at : (i d : ℕ) (xs : List ℕ) → i < length xs → drop i xs ≡ get_or xs i d ∷ drop (i + 1) xs
drop_at zero d [] low = absurd (omega (arith, low))
drop_at zero d (x ∷ xs) low = refl
drop_at (suc i) d [] low = absurd (omega (arith, low))
drop_at (suc i) d (x ∷ xs) low = drop_at i d xs (omega (arith, low)) ∙ ap (λ n. get_or xs i d ∷ drop n (x ∷ xs)) (let e : suc (i + 1) ≡ suc i + 1 = omega arith in e)

pub none_chosen : (rows : List (List ℕ)) (k : ℕ) (order : List ℕ) (peeled n : ℕ) → peeled ≤ length order → n ≡ length rows →
    AreChosen rows k order peeled (length order) (replicate n None)
none_chosen rows k order peeled n front is = record {
  size = length-replicate n None ∙ is;
  later = λ v some. absurd (cc (replicate_at {A = Option ℕ} None n v, some));
  below = λ v c some. absurd (cc (replicate_at {A = Option ℕ} None n v, some));
  proper = λ v w c joined some other. cc (replicate_at {A = Option ℕ} None n v, some);
  full = λ j from low. absurd (omega (arith, from, low, front));
}

module _ (rows : List (List ℕ)) (k : ℕ) (order : List ℕ) (peeled i v : ℕ) (colours : List (Option ℕ)) (simple : AreSimple rows) (removed : AreRemoved rows k order peeled)
    (low : i < length order) (is : v ≡ get_or order i 0) (chosen : AreChosen rows k order peeled (i + 1) colours) (within : v < length rows) where
  dropped : drop i order ≡ v ∷ drop (i + 1) order
  dropped = drop_at i 0 order low ∙ ap (λ n. n ∷ drop (i + 1) order) (sym is)

  not_before : (z : ℕ) → has z (drop i order) ≡ true → has z (take i order) ≡ false
  not_before = split_at i 0 order low removed.once

  chosen_one : (o : Option ℕ) → ((c : ℕ) → o ≡ Some c → (c < k) × (has c (colours_of (row rows v) colours) ≡ false)) → (o ≡ None → (c : ℕ) → c < k → has c (colours_of (row rows v) colours) ≡ true) →
      AreChosen rows k order peeled i (set colours v o)
  chosen_one o some none = record {
    size = length-set colours v o ∙ chosen.size;
    later = λ z now. ap (has z) dropped ∙ later z now (cases_eq v z);
    below = λ z c now. elim (cases_eq z v) [
      | inl same ↦ (some c (sym here ∙ (ap (colour_of (set colours v o)) (sym same) ∙ now))).0
      | inr other ↦ chosen.below z c (sym (away z other) ∙ now)
    ];
    proper = proper;
    full = λ j from below. full j from below (cases_eq i j);
  }
    where
      here : colour_of (set colours v o) v ≡ o
      here = get_or-set_same colours v o None (subst (λ n. v < n) (sym chosen.size) within)

      away : (z : ℕ) → (z ≡ v → ⊥) → colour_of (set colours v o) z ≡ colour_of colours z
      away z other = get_or-set_other colours v z o None other

      later : (z : ℕ) → is_some (colour_of (set colours v o) z) ≡ true → ((v ≡ z) ⊎ (v ≡ z → ⊥)) → has z (v ∷ drop (i + 1) order) ≡ true
      later z now (inl same) = ap (λ (n : ℕ). has z (n ∷ drop (i + 1) order)) same ∙ has_here z (drop (i + 1) order)
      later z now (inr other) = has_later z v (drop (i + 1) order) (chosen.later z (sym (ap (λ (q : Option ℕ). is_some q) (away z (λ e. other (sym e)))) ∙ now))

      -- no neighbour has the new colour
      apart_ : (w c : ℕ) → adjacent rows v w ≡ true → o ≡ Some c → colour_of colours w ≡ Some c → ⊥
      apart_ w c joined mine its =
          let among : has c (colours_of (row rows v) colours) ≡ true = colour_is_among w c (row rows v) colours joined its in cc (among, (some c mine).1)

      proper : (z w c : ℕ) → adjacent rows z w ≡ true → colour_of (set colours v o) z ≡ Some c → colour_of (set colours v o) w ≡ Some c → ⊥
      proper z w c joined first second = by (cases_eq z v) (cases_eq w v)
        where
          by : ((z ≡ v) ⊎ (z ≡ v → ⊥)) → ((w ≡ v) ⊎ (w ≡ v → ⊥)) → ⊥
          by (inl same) (inl also) = simple.undirected.different z w joined (same ∙ sym also)
          by (inl same) (inr other) = apart_ w c (ap (λ n. adjacent rows n w) (sym same) ∙ joined) (sym here ∙ (ap (colour_of (set colours v o)) (sym same) ∙ first)) (sym (away w other) ∙ second)
          by (inr other) (inl same) = apart_ z c (simple.undirected.both z v (ap (λ n. adjacent rows z n) (sym same) ∙ joined)) (sym here ∙ (ap (colour_of (set colours v o)) (sym same) ∙ second))
              (sym (away z other) ∙ first)
          by (inr other) (inr also) = chosen.proper z w c joined (sym (away z other) ∙ first) (sym (away w also) ∙ second)

      -- one that peels has a colour
      has_one : i < peeled → is_some o ≡ true
      has_one below = by o refl
        where
          by : (q : Option ℕ) → o ≡ q → is_some q ≡ true
          by (Some c) e = refl
          by None e =
              let many : k ≤ length (colours_of (row rows v) colours) = all_among k (colours_of (row rows v) colours) (none e) in
              let few : length (colours_of (row rows v) colours) ≤ left_of (take i order) (row rows v) = few_colours (take i order) (row rows v) colours
              (λ w now. not_before w (ap (has w) dropped ∙ has_later w v (drop (i + 1) order) (chosen.later w now))) in
              let less : left_of (take i order) (row rows v) < k = subst (λ n. left_of (take i order) (row rows n) < k) (sym is) (removed.few i below) in
              absurd (omega (arith, many, few, less))

      full : (j : ℕ) → i ≤ j → j < peeled → ((i ≡ j) ⊎ (i ≡ j → ⊥)) → is_some (colour_of (set colours v o) (get_or order j 0)) ≡ true
      full j from below (inl same) = ap (λ n. is_some (colour_of (set colours v o) (get_or order n 0))) (sym same) ∙ (ap (λ n. is_some (colour_of (set colours v o) n)) (sym is)
          ∙ (ap (λ (q : Option ℕ). is_some q) here ∙ has_one (subst (λ n. n < peeled) (sym same) below)))
      full j from below (inr other) = elim (cases_eq (get_or order j 0) v) [
        | inl same ↦ ap (λ n. is_some (colour_of (set colours v o) n)) same ∙ (ap (λ (q : Option ℕ). is_some q) here ∙ has_one (omega (arith, from, below)))
        | inr away_ ↦ ap (λ (q : Option ℕ). is_some q) (away (get_or order j 0) away_) ∙ chosen.full j (omega (arith, from, other)) below
      ]

-- ---- what the calls are given

pub node_within : (rows : List (List ℕ)) (k : ℕ) (order : List ℕ) (peeled left : ℕ) → AreRemoved rows k order peeled → 0 < left → left ≤ length order → get_or order (left - 1) 0 < length rows
node_within rows k order peeled left removed some front = removed.within (get_or order (left - 1) 0) (has_at order (left - 1) 0 (omega (arith, some, front)))

free_some : (k : ℕ) (nodes : List ℕ) (colours : List (Option ℕ)) (taken : List Bool) → IsTaken k nodes colours taken → (o : Option ℕ) →
    MatchOption o ((c : ℕ) → c < length taken → get_or taken c false ≡ true) (λ c. (c < length taken) × (get_or taken c false ≡ false)) → (c : ℕ) → o ≡ Some c →
    (c < k) × (has c (colours_of nodes colours) ≡ false)
free_some k nodes colours taken is None free c e = absurd (cc (e))
free_some k nodes colours taken is (Some d) free c e =
    let same : d ≡ c = same_Some d c e in
    let below : d < k = subst (λ n. d < n) is.size free.0 in
    (subst (λ n. n < k) same below, subst (λ n. has n (colours_of nodes colours) ≡ false) same (sym (is.marks d below) ∙ free.1))

free_none : (k : ℕ) (nodes : List ℕ) (colours : List (Option ℕ)) (taken : List Bool) → IsTaken k nodes colours taken → (o : Option ℕ) →
    MatchOption o ((c : ℕ) → c < length taken → get_or taken c false ≡ true) (λ c. (c < length taken) × (get_or taken c false ≡ false)) → o ≡ None → (c : ℕ) → c < k →
    has c (colours_of nodes colours) ≡ true
free_none k nodes colours taken is None free e c low = sym (is.marks c low) ∙ free c (subst (λ n. c < n) (sym is.size) low)
free_none k nodes colours taken is (Some d) free e c low = absurd (cc (e))

pub choose_next : (rows : List (List ℕ)) (k : ℕ) (order : List ℕ) (peeled left v : ℕ) (colours : List (Option ℕ)) (nodes : List ℕ) (seen : List (Option ℕ)) (size : ℕ) (taken read : List Bool) (o : Option ℕ) →
    AreSimple rows → AreRemoved rows k order peeled → 0 < left → left ≤ length order → v ≡ get_or order (left - 1) 0 → AreChosen rows k order peeled left colours →
    nodes ≡ row rows v → seen ≡ colours → size ≡ k → IsTaken size nodes seen taken → read ≡ taken →
    MatchOption o ((c : ℕ) → c < length read → get_or read c false ≡ true) (λ c. (c < length read) × (get_or read c false ≡ false)) →
    AreChosen rows k order peeled (left - 1) (set colours v o)
choose_next rows k order peeled left v colours nodes seen size taken read o simple removed some front is chosen its same long marked reads free =
    chosen_one rows k order peeled (left - 1) v colours simple removed (omega (arith, some, front)) is
    (subst (λ n. AreChosen rows k order peeled n colours) (let e : left ≡ left - 1 + 1 = omega (arith, some) in e) chosen)
    (subst (λ n. n < length rows) (sym is) (node_within rows k order peeled left removed some front)) o
    (free_some k (row rows v) colours taken there o free_) (free_none k (row rows v) colours taken there o free_)
  where
    there : IsTaken k (row rows v) colours taken
    there = subst (λ n. IsTaken n (row rows v) colours taken) long (subst (λ ns. IsTaken size ns colours taken) its (subst (λ cs. IsTaken size nodes cs taken) same marked))

    free_ : MatchOption o ((c : ℕ) → c < length taken → get_or taken c false ≡ true) (λ c. (c < length taken) × (get_or taken c false ≡ false))
    free_ = subst (λ l. MatchOption o ((c : ℕ) → c < length l → get_or l c false ≡ true) (λ c. (c < length l) × (get_or l c false ≡ false))) reads free
