-- A search leaves a node.
use Rattle.std.proofs.Common.{◌≡◌, ℕ, suc, ◌+◌, ◌-◌, ◌<◌, ◌≤◌, ◌==◌, Bool, true, false, ◌||◌, inl, inr, ◌⊎◌, List, [], ◌∷◌, ◌++◌, length, length-append, take, drop, get_or, set, Option, Some, None, refl, sym, ◌∙◌, ap, subst, arith}
use Rattle.std.specs.Prelude.{is_some, nat_lt}
use Rattle.std.proofs.lemmas.Bool.{or_cases, cases_lt, cases_eq, cases_Bool, eqb-true, eq-eqb, lt-ltb, or_right}
use Rattle.std.proofs.lemmas.List.{length-set, length-drop, length-take-le, get_or-set_same, get_or-set_other, get_or_append_left, get_or_past, get_or-take, get_or-drop, get_or_read}
use Rattle.std.proofs.Math.Seq.{get_or-append_seam}
use Rattle.cmm_digraph.specs.Graphs.{is_among, are_below, is_graph, mentions}
use Rattle.cmm_digraph.proofs.Counting.{all_from, among-last}
use Rattle.cmm_digraph.specs.declared.search.State.{State}
use Rattle.cmm_digraph.specs.declared.search.State.TheVariants.{New, Open, Closed}
use Rattle.cmm_digraph.specs.declared.search.Step.{Step}
use Rattle.cmm_digraph.specs.declared.search.Step.TheVariants.{Leave}
use Rattle.cmm_digraph.specs.Reaching.{reaches, comes_back}
use Rattle.cmm_digraph.specs.inside.Components.{state_of, IsLowest, IsUpTo, IsJoined, AreClosed}
use Rattle.cmm_digraph.specs.inside.Searched.{Leads, is_new, node_at, on_path, AreDue, IsStart, IsWithin, IsSearched}
use Rattle.cmm_digraph.proofs.Leading.{leads_on, leads_through, leads_round, never}
use Rattle.cmm_digraph.proofs.Shortening.{mention_below, shorter}
use Rattle.cmm_digraph.proofs.Due.{due_more, due_kept, due_before}
use Rattle.cmm_digraph.proofs.Starting.{start_of}
use Rattle.cmm_digraph.proofs.Entering.{among_place, to_path}

-- where a node stands in a list
pub place_of : (v : ℕ) (xs : List ℕ) → is_among v xs ≡ true → (p : ℕ) × (p < length xs) × (get_or xs p 0 ≡ v)
place_of v [] h = cc
place_of v (x ∷ xs) h = elim (or_cases (x == v) (is_among v xs) h) [
  | inl same ↦ (0, omega arith, eqb-true x v same)
  | inr later ↦ let at : (p : ℕ) × (p < length xs) × (get_or xs p 0 ≡ v) = place_of v xs later in let lt : at.0 < length xs = at.1 in (suc at.0, omega arith, at.2)
]

abbrev is_closed : State → Bool
is_closed state = elim state [ Closed ↦ true | _ ↦ false ]

closed_is : (state : State) → is_closed state ≡ true → state ≡ Closed
closed_is New h = cc
closed_is (Open place) h = cc
closed_is Closed h = refl

-- an open node is a node
pub open_below : (states : List State) (v place : ℕ) → state_of states v ≡ Open place → v < length states
open_below states v place h = elim (cases_lt v (length states)) [
  | inl lt ↦ lt
  | inr past ↦ let e : Open place ≡ New = sym h ∙ get_or_past states v New past in cc
]

-- what a node mentions, as it is read
pub mentions_at : (graph : List (List ℕ)) (v node : ℕ) (items row : List ℕ) → items ≡ row → row ≡ get_or graph v row → v ≡ node → node < length graph → items ≡ mentions graph node
mentions_at graph v node items row same at e lt = same ∙ get_or_read graph v row (omega arith) at [] ∙ ap (mentions graph) e

-- what stands from a place on
pub dropped_place : (xs : List ℕ) (place v : ℕ) → place ≤ length xs → is_among v (drop place xs) ≡ true → (i : ℕ) × (place ≤ i) × (i < length xs) × (get_or xs i 0 ≡ v)
dropped_place xs place v le there =
    let at : (p : ℕ) × (p < length (drop place xs)) × (get_or (drop place xs) p 0 ≡ v) = place_of v (drop place xs) there in
    let size : length (drop place xs) ≡ length xs - place = length-drop place xs in
    let lt : at.0 < length (drop place xs) = at.1 in (place + at.0, omega arith, omega arith, sym (get_or-drop place xs at.0 0) ∙ at.2)

-- a node that is left, and those that are closed with it, are nodes
pub left_node : (graph : List (List ℕ)) (states : List State) (open_ starts : List ℕ) (place : ℕ) (steps : List Step) (cyclic : List Bool) →
    IsSearched graph states open_ starts (Leave place ∷ steps) cyclic → node_at open_ place < length states
left_node graph states open_ starts place steps cyclic s = open_below states (node_at open_ place) place (s.places place s.due.0)

pub left_below : (graph : List (List ℕ)) (states : List State) (open_ starts : List ℕ) (place : ℕ) (steps : List Step) (cyclic : List Bool) →
    IsSearched graph states open_ starts (Leave place ∷ steps) cyclic → are_below (length states) (drop place open_) ≡ true
left_below graph states open_ starts place steps cyclic s = all_from (λ n. nat_lt n (length states)) (drop place open_) (λ v there.
    let lt : place < length open_ = s.due.0 in
    let at : (i : ℕ) × (place ≤ i) × (i < length open_) × (node_at open_ i ≡ v) = dropped_place open_ place v (omega arith) there in
    lt-ltb v (length states) (open_below states v at.0 (ap (state_of states) (sym at.3) ∙ s.places at.0 at.2)))

-- no more nodes are new
pub closed_older : (nodes : List ℕ) (states states' : List State) → AreClosed nodes states states' → (v : ℕ) → is_new (state_of states' v) ≡ true → is_new (state_of states v) ≡ true
closed_older nodes states states' shut v h = elim (cases_Bool (is_among v nodes)) [
  | inl there ↦ let f : false ≡ true = sym (ap is_new (shut.closed v there)) ∙ h in cc
  | inr out ↦ sym (ap is_new (shut.others v out)) ∙ h
]

module _ (graph : List (List ℕ)) (is : is_graph graph ≡ true) (states : List State) (open_ starts : List ℕ) (place : ℕ) (steps : List Step) (cyclic : List Bool)
    (s : IsSearched graph states open_ starts (Leave place ∷ steps) cyclic) (lowest : Option ℕ) (low : IsLowest (mentions graph (node_at open_ place)) states lowest)
    (starts' : List ℕ) (joined : IsJoined lowest starts starts') where
  abbrev node : ℕ
  node = node_at open_ place

  left_within : place < length open_
  left_within = s.due.0

  state_here : state_of states node ≡ Open place
  state_here = s.places place left_within

  is_node : node < length graph
  is_node = let size : length states ≡ length graph = s.size in let lt : node < length states = left_node graph states open_ starts place steps cyclic s in omega arith

  before_here : (other : ℕ) → is_among other (on_path steps) ≡ true → other < place
  before_here other there = due_before graph states open_ steps [] place s.due.2 other there

  up_to_here : (other : ℕ) → is_among other (on_path (Leave place ∷ steps)) ≡ true → other ≤ place
  up_to_here other there = elim (or_cases (place == other) (is_among other (on_path steps)) there) [
    | inl same ↦ let e : place ≡ other = eqb-true place other same in omega arith
    | inr later ↦ let lt : other < place = before_here other later in omega arith
  ]

  leads_here : (i : ℕ) → i < length open_ → Leads graph (node_at open_ i) node
  leads_here i lt = to_path graph states open_ starts (Leave place ∷ steps) cyclic s place left_within up_to_here i lt

  -- all that is mentioned has been found
  found : (m : ℕ) → is_among m (mentions graph node) ≡ true → is_new (state_of states m) ≡ false
  found m among = elim (cases_Bool (is_new (state_of states m))) [
    | inl young ↦ let f : false ≡ true = s.due.1.all m among young in cc
    | inr old ↦ old
  ]

  -- ---- the node comes back where it mentions an open one

  told_some : (at : ℕ) → lowest ≡ Some at → comes_back graph node ≡ true
  told_some at e =
      let m : (m : ℕ) × (is_among m (mentions graph node) ≡ true) × (state_of states m ≡ Open at) = low.is at e in
      let opened : (at < length open_) × (node_at open_ at ≡ m.0) = s.opened m.0 at m.2 in
      let around : (count : ℕ) × (reaches graph count node (mentions graph node) ≡ true)
      = leads_round graph node m.0 m.1 (subst (λ (n : ℕ). Leads graph n node) opened.1 (leads_here at opened.0)) in
      shorter graph is node is_node around.0 (mentions graph node) (mention_below graph is node) around.1

  told_none : lowest ≡ None → comes_back graph node ≡ false
  told_none e =
      never graph (λ v. is_closed (state_of states v)) (λ v m shut among. ap is_closed (s.closed v m (closed_is (state_of states v) shut) among)) node (ap is_closed state_here)
      (length graph) (mentions graph node) (λ v among. by v among (state_of states v) refl)
    where
      by : (v : ℕ) → is_among v (mentions graph node) ≡ true → (state : State) → state_of states v ≡ state → is_closed state ≡ true
      by v among New at = let f : true ≡ false = sym (ap is_new at) ∙ found v among in cc
      by v among Closed at = refl
      by v among (Open q) at = let least : (l : ℕ) × (lowest ≡ Some l) × (l ≤ q) = low.least v q among at in let f : None ≡ Some least.0 = sym e ∙ least.1 in cc

  told_here : is_some lowest ≡ comes_back graph node
  told_here = by lowest refl
    where
      by : (o : Option ℕ) → lowest ≡ o → is_some o ≡ comes_back graph node
      by None e = sym (told_none e)
      by (Some at) e = sym (told_some at e)

  -- ---- components are joined

  first' : is_among 0 starts' ≡ true
  first' = let lt : place < length open_ = left_within in joined.all 0 (s.first (omega arith)) (λ l e. omega arith)

  starting' : (start : ℕ) → is_among start starts' ≡ true → is_among start (on_path (Leave place ∷ steps)) ≡ true
  starting' start there = s.starting start (joined.kept start there).0

  -- a component begins where it did, or its nodes lead to the one that is left, and so to where it begins now
  back' : (start i : ℕ) → i < length open_ → IsStart starts' start i → Leads graph (node_at open_ i) (node_at open_ start)
  back' start i lt now = by (cases_eq old.0 start) lowest refl
    where
      old : (b : ℕ) × IsStart starts b i
      old = start_of starts i (s.first (omega arith))

      after : start ≤ old.0
      after = old.1.last start (joined.kept start now.among).0 now.before

      kept : IsUpTo lowest old.0 → old.0 ≡ start
      kept up = let le : old.0 ≤ start = now.last old.0 (joined.all old.0 old.1.among up) old.1.before in let ge : start ≤ old.0 = after in omega arith

      onward : (at : ℕ) → lowest ≡ Some at → at < old.0 → Leads graph (node_at open_ i) (node_at open_ start)
      onward at e past =
          let m : (m : ℕ) × (is_among m (mentions graph node) ≡ true) × (state_of states m ≡ Open at) = low.is at e in
          let opened : (at < length open_) × (node_at open_ at ≡ m.0) = s.opened m.0 at m.2 in
          let to_m : Leads graph (node_at open_ i) (node_at open_ at) =
          subst (λ (n : ℕ). Leads graph (node_at open_ i) n) (sym opened.1) (leads_on graph (node_at open_ i) node m.0 (leads_here i lt) m.1) in
          let begin : (b : ℕ) × IsStart starts b at = start_of starts at (s.first (omega arith)) in
          let before : begin.0 ≤ at = begin.1.before in
          let here : old.0 ≤ i = old.1.before in
          let low_enough : start ≤ at = (joined.kept start now.among).1 at e in
          let a : begin.0 ≤ start = now.last begin.0 (joined.all begin.0 begin.1.among (λ l f. let g : Some at ≡ Some l = sym e ∙ f in let h : at ≡ l = cc in omega arith)) (omega arith) in
          let b : start ≤ begin.0 = begin.1.last start (joined.kept start now.among).0 low_enough in
          let same : begin.0 ≡ start = omega arith in
          leads_through graph (node_at open_ i) (node_at open_ at) (node_at open_ start) to_m
          (subst (λ (n : ℕ). Leads graph (node_at open_ at) (node_at open_ n)) same (s.back begin.0 at opened.0 begin.1))

      by : (old.0 ≡ start) ⊎ (old.0 ≡ start → ⊥) → (o : Option ℕ) → lowest ≡ o → Leads graph (node_at open_ i) (node_at open_ start)
      by (inl same) o e = subst (λ (n : ℕ). Leads graph (node_at open_ i) (node_at open_ n)) same (s.back old.0 i lt old.1)
      by (inr other) None e = absurd (other (kept (λ l f. let g : None ≡ Some l = sym e ∙ f in cc)))
      by (inr other) (Some at) e = elim (cases_lt at old.0) [
        | inl past ↦ onward at e past
        | inr le ↦ absurd (other (kept (λ l f. let g : Some at ≡ Some l = sym e ∙ f in let h : at ≡ l = cc in omega arith)))
      ]

  -- ---- what the node mentions

  within_less : (i m : ℕ) → IsWithin states starts i m → IsWithin states starts' i m
  within_less i m (inl shut) = inl shut
  within_less i m (inr (at, opened, after)) = inr (at, opened, λ start there le. after start (joined.kept start there).0 le)

  within_here : (m : ℕ) → is_among m (mentions graph node) ≡ true → IsWithin states starts' place m
  within_here m among = by (state_of states m) refl
    where
      by : (state : State) → state_of states m ≡ state → IsWithin states starts' place m
      by New at = let f : true ≡ false = sym (ap is_new at) ∙ found m among in cc
      by Closed at = inl at
      by (Open q) at =
          let least : (l : ℕ) × (lowest ≡ Some l) × (l ≤ q) = low.least m q among at in
          let le : least.0 ≤ q = least.2 in
          inr (q, at, λ start there before. let a : start ≤ least.0 = (joined.kept start there).1 least.0 least.1 in omega arith)

  off_path : (i : ℕ) → is_among i (on_path steps) ≡ false → (i ≡ place → ⊥) → is_among i (on_path (Leave place ∷ steps)) ≡ false
  off_path i off other = elim (cases_Bool (place == i)) [
    | inl same ↦ absurd (other (sym (eqb-true place i same)))
    | inr out ↦ ap (λ b. b || is_among i (on_path steps)) out ∙ off
  ]

  left' : (i : ℕ) → i < length open_ → is_among i (on_path steps) ≡ false → (m : ℕ) → is_among m (mentions graph (node_at open_ i)) ≡ true → IsWithin states starts' i m
  left' i lt off m among = elim (cases_eq i place) [
    | inl same ↦ subst (λ (n : ℕ). IsWithin states starts' n m) (sym same) (within_here m (ap (λ n. is_among m (mentions graph (node_at open_ n))) (sym same) ∙ among))
    | inr other ↦ within_less i m (s.left i lt (off_path i off other) m among)
  ]

  abbrev cyclic' : List Bool
  cyclic' = set cyclic node (is_some lowest)

  flag_here : get_or cyclic' node false ≡ comes_back graph node
  flag_here = let flags : length cyclic ≡ length graph = s.flags in let lt : node < length graph = is_node in
      get_or-set_same cyclic node (is_some lowest) false (omega arith) ∙ told_here

  told' : (i : ℕ) → i < length open_ → is_among i (on_path steps) ≡ false → get_or cyclic' (node_at open_ i) false ≡ comes_back graph (node_at open_ i)
  told' i lt off = elim (cases_eq (node_at open_ i) node) [
    | inl same ↦ ap (λ n. get_or cyclic' n false) same ∙ flag_here ∙ ap (comes_back graph) (sym same)
    | inr other ↦ get_or-set_other cyclic node (node_at open_ i) (is_some lowest) false other ∙ s.told i lt (off_path i off (λ e. other (ap (node_at open_) e)))
  ]

  known' : (v : ℕ) → state_of states v ≡ Closed → get_or cyclic' v false ≡ comes_back graph v
  known' v shut = get_or-set_other cyclic node v (is_some lowest) false (λ same. let e : Closed ≡ Open place = sym shut ∙ ap (state_of states) same ∙ state_here in cc) ∙ s.known v shut

  -- ---- no component begins there

  pub starts_before : (start : ℕ) → is_among start starts' ≡ true → start ≤ place
  starts_before start there = up_to_here start (starting' start there)

  pub left_open : is_among place starts' ≡ false → IsSearched graph states open_ starts' steps cyclic'
  left_open none = record {
    size = s.size;
    flags = length-set cyclic node (is_some lowest) ∙ s.flags;
    due = due_more graph states open_ steps [] place (length open_) (let lt : place < length open_ = left_within in omega arith) s.due.2;
    places = s.places;
    opened = s.opened;
    closed = s.closed;
    along = s.along;
    back = back';
    ascending = joined.ascending;
    first = λ some. first';
    starting = λ start there. elim (or_cases (place == start) (is_among start (on_path steps)) (starting' start there)) [
      | inl same ↦ let f : true ≡ false = sym there ∙ ap (λ n. is_among n starts') (sym (eqb-true place start same)) ∙ none in cc
      | inr before ↦ before
    ];
    left = left';
    told = told';
    known = known';
  }

  -- ---- a component begins there, and is whole

  module _ (rest : List ℕ) (cut : starts' ≡ rest ++ place ∷ []) (states' : List State) (shut : AreClosed (drop place open_) states states') where
    abbrev open' : List ℕ
    open' = take place open_

    size' : length open' ≡ place
    size' = let lt : place < length open_ = left_within in length-take-le place open_ (omega arith)

    node_kept : (i : ℕ) → i < place → node_at open' i ≡ node_at open_ i
    node_kept i lt = get_or-take place open_ i 0 lt

    -- the nodes from there on
    among_dropped : (i : ℕ) → place ≤ i → i < length open_ → is_among (node_at open_ i) (drop place open_) ≡ true
    among_dropped i le lt =
        let size : length (drop place open_) ≡ length open_ - place = length-drop place open_ in
        let e : place + (i - place) ≡ i = omega arith in
        subst (λ (n : ℕ). is_among n (drop place open_) ≡ true) (get_or-drop place open_ (i - place) 0 ∙ ap (node_at open_) e) (among_place (drop place open_) (i - place) (omega arith))

    dropped : (v : ℕ) → is_among v (drop place open_) ≡ true → (i : ℕ) × (place ≤ i) × (i < length open_) × (node_at open_ i ≡ v)
    dropped v there = let lt : place < length open_ = left_within in dropped_place open_ place v (omega arith) there

    not_dropped : (v i : ℕ) → state_of states v ≡ Open i → i < place → is_among v (drop place open_) ≡ false
    not_dropped v i at lt = elim (cases_Bool (is_among v (drop place open_))) [
      | inl there ↦
          let d : (j : ℕ) × (place ≤ j) × (j < length open_) × (node_at open_ j ≡ v) = dropped v there in
          let e : Open i ≡ Open d.0 = sym at ∙ ap (state_of states) (sym d.3) ∙ s.places d.0 d.2 in
          let f : i ≡ d.0 = cc in let g : place ≤ d.0 = d.1 in absurd (omega arith)
      | inr out ↦ out
    ]

    open_still : (v i : ℕ) → state_of states v ≡ Open i → i < place → state_of states' v ≡ Open i
    open_still v i at lt = shut.others v (not_dropped v i at lt) ∙ at

    shut_still : (v : ℕ) → state_of states v ≡ Closed → state_of states' v ≡ Closed
    shut_still v at = elim (cases_Bool (is_among v (drop place open_))) [
      | inl there ↦ shut.closed v there
      | inr out ↦ shut.others v out ∙ at
    ]

    shut_now : (v i : ℕ) → state_of states v ≡ Open i → place ≤ i → state_of states' v ≡ Closed
    shut_now v i at le =
        let opened : (i < length open_) × (node_at open_ i ≡ v) = s.opened v i at in
        shut.closed v (subst (λ (n : ℕ). is_among n (drop place open_) ≡ true) opened.1 (among_dropped i le opened.0))

    -- what was open is closed just from there on
    open_before : (v i : ℕ) → state_of states' v ≡ Open i → (i < place) × (state_of states v ≡ Open i)
    open_before v i h = by (cases_Bool (is_among v (drop place open_))) (cases_lt i place)
      where
        by : (is_among v (drop place open_) ≡ true) ⊎ (is_among v (drop place open_) ≡ false) → (i < place) ⊎ (place ≤ i) → (i < place) × (state_of states v ≡ Open i)
        by (inl there) b = let e : Open i ≡ Closed = sym h ∙ shut.closed v there in cc
        by (inr out) (inl lt) = (lt, sym (shut.others v out) ∙ h)
        by (inr out) (inr le) = let e : Open i ≡ Closed = sym h ∙ shut_now v i (sym (shut.others v out) ∙ h) le in cc

    off_here : (i : ℕ) → place ≤ i → is_among i (on_path steps) ≡ false
    off_here i le = elim (cases_Bool (is_among i (on_path steps))) [
      | inl there ↦ let lt : i < place = before_here i there in absurd (omega arith)
      | inr out ↦ out
    ]

    begins : is_among place starts' ≡ true
    begins = ap (is_among place) cut ∙ among-last place rest place ∙ or_right (is_among place rest) (place == place) (eq-eqb place place refl)

    rest_in : (start : ℕ) → is_among start rest ≡ true → is_among start starts' ≡ true
    rest_in start there = ap (is_among start) cut ∙ among-last start rest place ∙ ap (λ b. b || (place == start)) there

    in_rest : (start : ℕ) → is_among start starts' ≡ true → start < place → is_among start rest ≡ true
    in_rest start there lt = elim (or_cases (is_among start rest) (place == start) (sym (among-last start rest place) ∙ sym (ap (is_among start) cut) ∙ there)) [
      | inl old ↦ old
      | inr same ↦ let e : place ≡ start = eqb-true place start same in absurd (omega arith)
    ]

    at_rest : (k : ℕ) → k < length rest → get_or starts' k 0 ≡ get_or rest k 0
    at_rest k lt = ap (λ xs. get_or xs k 0) cut ∙ get_or_append_left rest (place ∷ []) 0 k lt

    size_cut : length starts' ≡ length rest + 1
    size_cut = ap length cut ∙ length-append rest (place ∷ [])

    rest_before : (start : ℕ) → is_among start rest ≡ true → start < place
    rest_before start there =
        let at : (k : ℕ) × (k < length rest) × (get_or rest k 0 ≡ start) = place_of start rest there in
        let lt : at.0 < length rest = at.1 in
        let size : length starts' ≡ length rest + 1 = size_cut in
        let up : get_or starts' at.0 0 < get_or starts' (length rest) 0 = joined.ascending at.0 (length rest) lt (omega arith) in
        let a : get_or starts' at.0 0 ≡ get_or rest at.0 0 = at_rest at.0 lt in
        let b : get_or starts' (length rest) 0 ≡ place = ap (λ xs. get_or xs (length rest) 0) cut ∙ get_or-append_seam rest place [] 0 in
        let c : get_or rest at.0 0 ≡ start = at.2 in omega arith

    -- the nodes of the component mention closed ones alone
    shut_beyond : (i m : ℕ) → place ≤ i → i < length open_ → is_among m (mentions graph (node_at open_ i)) ≡ true → state_of states' m ≡ Closed
    shut_beyond i m le lt among = by (left' i lt (off_here i le) m among)
      where
        by : IsWithin states starts' i m → state_of states' m ≡ Closed
        by (inl done) = shut_still m done
        by (inr (at, opened, after)) = shut_now m at opened (after place begins le)

    within_now : (i m : ℕ) → i < place → IsWithin states starts' i m → IsWithin states' rest i m
    within_now i m lt (inl done) = inl (shut_still m done)
    within_now i m lt (inr (at, opened, after)) = elim (cases_lt at place) [
      | inl before ↦ inr (at, open_still m at opened before, λ start there le. after start (rest_in start there) le)
      | inr le ↦ inl (shut_now m at opened le)
    ]

    closed_now : (v m : ℕ) → state_of states' v ≡ Closed → is_among m (mentions graph v) ≡ true → state_of states' m ≡ Closed
    closed_now v m done among = elim (cases_Bool (is_among v (drop place open_))) [
      | inl there ↦
          let d : (i : ℕ) × (place ≤ i) × (i < length open_) × (node_at open_ i ≡ v) = dropped v there in
          shut_beyond d.0 m d.1 d.2 (ap (λ n. is_among m (mentions graph n)) d.3 ∙ among)
      | inr out ↦ shut_still m (s.closed v m (sym (shut.others v out) ∙ done) among)
    ]

    known_now : (v : ℕ) → state_of states' v ≡ Closed → get_or cyclic' v false ≡ comes_back graph v
    known_now v done = elim (cases_Bool (is_among v (drop place open_))) [
      | inl there ↦
          let d : (i : ℕ) × (place ≤ i) × (i < length open_) × (node_at open_ i ≡ v) = dropped v there in
          subst (λ (n : ℕ). get_or cyclic' n false ≡ comes_back graph n) d.3 (told' d.0 d.2 (off_here d.0 d.1))
      | inr out ↦ known' v (sym (shut.others v out) ∙ done)
    ]

    within_old : (i : ℕ) → i < length open' → (i < place) × (i < length open_)
    within_old i lt = let size : length open' ≡ place = size' in let here : place < length open_ = left_within in (omega arith, omega arith)

    along_now : (i j : ℕ) → i ≤ j → j < length open' → Leads graph (node_at open' i) (node_at open' j)
    along_now i j le lt =
        let w : (j < place) × (j < length open_) = within_old j lt in
        let b : j < place = w.0 in
        subst (λ (n : ℕ). Leads graph n (node_at open' j)) (sym (node_kept i (omega arith))) (subst (λ (n : ℕ). Leads graph (node_at open_ i) n) (sym (node_kept j b)) (s.along i j le w.1))

    back_now : (start i : ℕ) → i < length open' → IsStart rest start i → Leads graph (node_at open' i) (node_at open' start)
    back_now start i lt now =
        let w : (i < place) × (i < length open_) = within_old i lt in
        let a : i < place = w.0 in
        let before : start ≤ i = now.before in
        subst (λ (n : ℕ). Leads graph n (node_at open' start)) (sym (node_kept i a)) (subst (λ (n : ℕ). Leads graph (node_at open_ i) n) (sym (node_kept start (omega arith)))
        (back' start i w.1 (record { among = rest_in start now.among; before = before; last = λ other there le. now.last other (in_rest other there (omega arith)) le })))

    pub left_whole : IsSearched graph states' open' rest steps cyclic'
    left_whole = record {
      size = shut.size ∙ s.size;
      flags = length-set cyclic node (is_some lowest) ∙ s.flags;
      due = subst (λ (n : ℕ). AreDue graph states' open' steps [] n) (sym size') (due_kept graph states states' open_ open' steps [] place (closed_older (drop place open_) states states' shut) node_kept s.due.2);
      places = λ i lt. let w : (i < place) × (i < length open_) = within_old i lt in
          ap (state_of states') (node_kept i w.0) ∙ open_still (node_at open_ i) i (s.places i w.1) w.0;
      opened = λ v i at.
          let old : (i < place) × (state_of states v ≡ Open i) = open_before v i at in
          let a : i < place = old.0 in
          let size : length open' ≡ place = size' in (omega arith, node_kept i a ∙ (s.opened v i old.1).1);
      closed = closed_now;
      along = along_now;
      back = back_now;
      ascending = λ i j lt within.
          let size : length starts' ≡ length rest + 1 = size_cut in
          let a : get_or starts' i 0 < get_or starts' j 0 = joined.ascending i j lt (omega arith) in
          let b : get_or starts' i 0 ≡ get_or rest i 0 = at_rest i (omega arith) in
          let c : get_or starts' j 0 ≡ get_or rest j 0 = at_rest j within in omega arith;
      first = λ some. let size : length open' ≡ place = size' in in_rest 0 first' (omega arith);
      starting = λ start there. elim (or_cases (place == start) (is_among start (on_path steps)) (starting' start (rest_in start there))) [
        | inl same ↦ let e : place ≡ start = eqb-true place start same in let lt : start < place = rest_before start there in absurd (omega arith)
        | inr before ↦ before
      ];
      left = λ i lt off m among.
          let w : (i < place) × (i < length open_) = within_old i lt in
          within_now i m w.0 (left' i w.1 off m (sym (ap (λ n. is_among m (mentions graph n)) (node_kept i w.0)) ∙ among));
      told = λ i lt off.
          let w : (i < place) × (i < length open_) = within_old i lt in
          ap (λ n. get_or cyclic' n false) (node_kept i w.0) ∙ told' i w.1 off ∙ ap (comes_back graph) (sym (node_kept i w.0));
      known = known_now;
    }
