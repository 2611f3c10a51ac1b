-- Places of open nodes, and where components of them begin.
use Rattle.std.proofs.Common.{◌≡◌, ◌≢◌, ℕ, suc, ◌+◌, ◌-◌, ◌<◌, ◌≤◌, ◌==◌, min, Bool, true, false, ◌||◌, inl, inr, ◌⊎◌, List, [], length, take, get_or, set, Option, Some, None, refl, sym, ◌∙◌, ap, subst, arith}
use Rattle.std.proofs.lemmas.Bool.{or_cases, cases_lt, cases_eq, cases_Bool, eqb-true, eq-eqb, or_right, or_left}
use Rattle.std.proofs.lemmas.List.{length-set, length-take-le, get_or-take, get_or-set_same, get_or-set_other}
use Rattle.std.proofs.Math.Seq.{take-suc}
use Rattle.cmm_digraph.specs.Graphs.{is_among}
use Rattle.cmm_digraph.proofs.Counting.{among-last}
use Rattle.cmm_digraph.specs.declared.search.State.{State}
use Rattle.cmm_digraph.specs.declared.search.State.TheVariants.{New, Open, Closed}
use Rattle.cmm_digraph.specs.inside.Components.{state_of, lower_of, IsLowest, IsAscending, IsUpTo, IsJoined, AreClosed}
use Rattle.cmm_digraph.proofs.Entering.{among_place}
use Rattle.cmm_digraph.proofs.Leaving.{place_of}

-- one more of a list
among_more : (v : ℕ) (xs : List ℕ) (k : ℕ) → k < length xs → is_among v (take (k + 1) xs) ≡ (is_among v (take k xs) || (get_or xs k 0 == v))
among_more v xs k lt = let e : k + 1 ≡ suc k = omega arith in ap (λ n. is_among v (take n xs)) e ∙ ap (is_among v) (take-suc xs k 0 lt) ∙ among-last v (take k xs) (get_or xs k 0)

-- ---- the lowest place

pub lowest_none : (states : List State) → IsLowest [] states None
lowest_none states = record { is = λ low e. cc; least = λ node place among at. cc }

module _ (xs : List ℕ) (k : ℕ) (lt : k < length xs) (states : List State) (lowest : Option ℕ) (are : IsLowest (take k xs) states lowest) where
  abbrev node : ℕ
  node = get_or xs k 0

  in_more : (v : ℕ) → is_among v (take k xs) ≡ true → is_among v (take (k + 1) xs) ≡ true
  in_more v there = among_more v xs k lt ∙ or_left (is_among v (take k xs)) (node == v) there

  last_in : is_among node (take (k + 1) xs) ≡ true
  last_in = among_more node xs k lt ∙ or_right (is_among node (take k xs)) (node == node) (eq-eqb node node refl)

  in_cases : (v : ℕ) → is_among v (take (k + 1) xs) ≡ true → (is_among v (take k xs) ≡ true) ⊎ (v ≡ node)
  in_cases v there = elim (or_cases (is_among v (take k xs)) (node == v) (sym (among_more v xs k lt) ∙ there)) [
    | inl old ↦ inl old
    | inr same ↦ inr (sym (eqb-true node v same))
  ]

  -- a node that isn't open
  lowest_same : (state : State) → state_of states node ≡ state → ((place : ℕ) → state ≡ Open place → ⊥) → IsLowest (take (k + 1) xs) states lowest
  lowest_same state at shut = record {
    is = λ low e. let was : (v : ℕ) × (is_among v (take k xs) ≡ true) × (state_of states v ≡ Open low) = are.is low e in (was.0, in_more was.0 was.1, was.2);
    least = λ v place there opened. elim (in_cases v there) [
      | inl old ↦ are.least v place old opened
      | inr same ↦ absurd (shut place (sym at ∙ sym (ap (state_of states) same) ∙ opened))
    ];
  }

  lowest_open : (at : ℕ) → state_of states node ≡ Open at → (o : Option ℕ) → lowest ≡ o → IsLowest (take (k + 1) xs) states (lower_of o (Open at))
  lowest_open at is None e = record {
    is = λ low f. let g : at ≡ low = cc in (node, last_in, is ∙ ap Open g);
    least = λ v place there opened. elim (in_cases v there) [
      | inl old ↦ let was : (l : ℕ) × (lowest ≡ Some l) × (l ≤ place) = are.least v place old opened in let f : None ≡ Some was.0 = sym e ∙ was.1 in cc
      | inr same ↦ let f : Open at ≡ Open place = sym is ∙ sym (ap (state_of states) same) ∙ opened in let g : at ≡ place = cc in (at, refl, omega arith)
    ];
  }
  lowest_open at is (Some low) e = record {
    is = λ l f. let g : min low at ≡ l = cc in elim (cases_lt low at) [
      | inl less ↦
          let was : (v : ℕ) × (is_among v (take k xs) ≡ true) × (state_of states v ≡ Open low) = are.is low e in
          let h : low ≡ l = omega arith in (was.0, in_more was.0 was.1, was.2 ∙ ap Open h)
      | inr more ↦ let h : at ≡ l = omega arith in (node, last_in, is ∙ ap Open h)
    ];
    least = λ v place there opened. elim (in_cases v there) [
      | inl old ↦
          let was : (l : ℕ) × (lowest ≡ Some l) × (l ≤ place) = are.least v place old opened in
          let f : Some low ≡ Some was.0 = sym e ∙ was.1 in
          let g : low ≡ was.0 = cc in let h : was.0 ≤ place = was.2 in (min low at, refl, omega arith)
      | inr same ↦ let f : Open at ≡ Open place = sym is ∙ sym (ap (state_of states) same) ∙ opened in let g : at ≡ place = cc in (min low at, refl, omega arith)
    ];
  }

  pub lowest_next : IsLowest (take (k + 1) xs) states (lower_of lowest (state_of states node))
  lowest_next = by (state_of states node) refl
    where
      by : (state : State) → state_of states node ≡ state → IsLowest (take (k + 1) xs) states (lower_of lowest state)
      by New at = lowest_same New at (λ place e. cc)
      by Closed at = lowest_same Closed at (λ place e. cc)
      by (Open at) is = lowest_open at is lowest refl

-- ---- nodes are closed

pub closed_none : (states : List State) → AreClosed [] states states
closed_none states = record { size = refl; closed = λ v there. cc; others = λ v absent. refl }

pub closed_next : (xs : List ℕ) (k : ℕ) → k < length xs → (states now : List State) → get_or xs k 0 < length states → AreClosed (take k xs) states now →
    AreClosed (take (k + 1) xs) states (set now (get_or xs k 0) Closed)
closed_next xs k lt states now within are = record {
  size = length-set now (get_or xs k 0) Closed ∙ are.size;
  closed = λ v there. elim (cases_eq v (get_or xs k 0)) [
    | inl same ↦ let size : length now ≡ length states = are.size in ap (state_of (set now (get_or xs k 0) Closed)) same ∙ get_or-set_same now (get_or xs k 0) Closed New (omega arith)
    | inr other ↦ get_or-set_other now (get_or xs k 0) v Closed New other ∙ are.closed v (elim (or_cases (is_among v (take k xs)) (get_or xs k 0 == v) (sym (among_more v xs k lt) ∙ there)) [
      | inl old ↦ old
      | inr same ↦ absurd (other (sym (eqb-true (get_or xs k 0) v same)))
    ])
  ];
  others = λ v absent.
      let none : (is_among v (take k xs) ≡ false) × ((get_or xs k 0 == v) ≡ false) = both_false (is_among v (take k xs)) (get_or xs k 0 == v) (sym (among_more v xs k lt) ∙ absent) in
      get_or-set_other now (get_or xs k 0) v Closed New (λ same. let f : true ≡ false = sym (eq-eqb (get_or xs k 0) v (sym same)) ∙ none.1 in cc) ∙ are.others v none.0;
}
  where
    both_false : (b c : Bool) → (b || c) ≡ false → (b ≡ false) × (c ≡ false)
    both_false true c h = cc
    both_false false c h = (refl, h)

-- ---- components are joined

pub joined_none : (starts : List ℕ) → IsAscending starts → IsJoined None starts starts
joined_none starts ascending = record { kept = λ start there. (there, λ low e. cc); all = λ start there up. there; ascending = ascending }

pub joined_to : (starts : List ℕ) (lowest count : ℕ) → IsAscending starts → count ≤ length starts → ((k : ℕ) → count ≤ k → k < length starts → lowest < get_or starts k 0) →
    ((last : ℕ) → last + 1 ≡ count → get_or starts last 0 ≤ lowest) → IsJoined (Some lowest) starts (take count starts)
joined_to starts lowest count ascending le above last = record {
  kept = kept;
  all = λ start there up.
      let at : (k : ℕ) × (k < length starts) × (get_or starts k 0 ≡ start) = place_of start starts there in
      let low : start ≤ lowest = up lowest refl in
      let here : get_or starts at.0 0 ≡ start = at.2 in
      elim (cases_lt at.0 count) [
        | inl before ↦ subst (λ (n : ℕ). is_among n (take count starts) ≡ true) (get_or-take count starts at.0 0 before ∙ at.2)
            (among_place (take count starts) at.0 (let size : length (take count starts) ≡ count = length-take-le count starts le in omega arith))
        | inr past ↦ let a : lowest < get_or starts at.0 0 = above at.0 past at.1 in absurd (omega arith)
      ];
  ascending = λ i j lt within.
      let size : length (take count starts) ≡ count = length-take-le count starts le in
      let a : get_or starts i 0 < get_or starts j 0 = ascending i j lt (omega arith) in
      let b : get_or (take count starts) i 0 ≡ get_or starts i 0 = get_or-take count starts i 0 (omega arith) in
      let c : get_or (take count starts) j 0 ≡ get_or starts j 0 = get_or-take count starts j 0 (omega arith) in omega arith;
}
  where
    up_to : (k start : ℕ) → k < count → get_or starts k 0 ≡ start → start ≤ lowest
    up_to k start lt here = elim (cases_lt (k + 1) count) [
      | inl more ↦
          let e : (count - 1) + 1 ≡ count = omega arith in
          let a : get_or starts k 0 < get_or starts (count - 1) 0 = ascending k (count - 1) (omega arith) (omega arith) in
          let b : get_or starts (count - 1) 0 ≤ lowest = last (count - 1) e in omega arith
      | inr most ↦ let e : k + 1 ≡ count = omega arith in let b : get_or starts k 0 ≤ lowest = last k e in omega arith
    ]

    kept : (start : ℕ) → is_among start (take count starts) ≡ true → (is_among start starts ≡ true) × IsUpTo (Some lowest) start
    kept start there =
        let at : (k : ℕ) × (k < length (take count starts)) × (get_or (take count starts) k 0 ≡ start) = place_of start (take count starts) there in
        let size : length (take count starts) ≡ count = length-take-le count starts le in
        let lt : at.0 < length (take count starts) = at.1 in
        let here : get_or starts at.0 0 ≡ start = sym (get_or-take count starts at.0 0 (omega arith)) ∙ at.2 in (
          subst (λ (n : ℕ). is_among n starts ≡ true) here (among_place starts at.0 (omega arith)),
          λ low e. let same : lowest ≡ low = cc in let a : start ≤ lowest = up_to at.0 start (omega arith) here in omega arith,
        )

-- where no component begins at the last place, none begins there
pub none_there : (place : ℕ) (starts : List ℕ) → IsAscending starts → ((start : ℕ) → is_among start starts ≡ true → start ≤ place) →
    ((last : ℕ) → last + 1 ≡ length starts → get_or starts last 0 ≢ place) → is_among place starts ≡ false
none_there place starts ascending most other = elim (cases_Bool (is_among place starts)) [
  | inl there ↦
      let at : (k : ℕ) × (k < length starts) × (get_or starts k 0 ≡ place) = place_of place starts there in
      let lt : at.0 < length starts = at.1 in
      let here : get_or starts at.0 0 ≡ place = at.2 in
      elim (cases_lt (at.0 + 1) (length starts)) [
        | inl more ↦
            let a : get_or starts at.0 0 < get_or starts (at.0 + 1) 0 = ascending at.0 (at.0 + 1) (omega arith) more in
            let b : get_or starts (at.0 + 1) 0 ≤ place = most (get_or starts (at.0 + 1) 0) (among_place starts (at.0 + 1) more) in absurd (omega arith)
        | inr last ↦ absurd (other at.0 (omega arith) at.2)
      ]
  | inr none ↦ none
]
