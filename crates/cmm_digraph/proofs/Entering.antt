-- A search enters a node.
use Rattle.std.proofs.Common.{◌≡◌, ℕ, suc, zero, ◌+◌, ◌-◌, ◌<◌, ◌≤◌, ◌==◌, Bool, true, false, ◌||◌, inl, inr, ◌⊎◌, List, [], ◌∷◌, ◌++◌, length, length-append, get_or, set, refl, sym, ◌∙◌, ap, subst, arith}
use Rattle.std.proofs.lemmas.Bool.{or_cases, cases_lt, cases_eq, cases_Bool, eqb-true, eq-eqb, or_right}
use Rattle.std.proofs.lemmas.List.{length-set, get_or-set_same, get_or-set_other, get_or_append_left}
use Rattle.std.proofs.Math.Seq.{get_or-append_seam}
use Rattle.cmm_digraph.specs.Graphs.{is_among, is_graph, mentions}
use Rattle.cmm_digraph.proofs.Counting.{among_first, among_later, among-last}
use Rattle.cmm_digraph.specs.declared.search.State.{State}
use Rattle.cmm_digraph.specs.declared.search.State.TheVariants.{New, Open, Closed}
use Rattle.cmm_digraph.specs.declared.search.Step.{Step}
use Rattle.cmm_digraph.specs.declared.search.Step.TheVariants.{Enter, Leave}
use Rattle.cmm_digraph.specs.Reaching.{comes_back}
use Rattle.cmm_digraph.specs.inside.Components.{state_of, IsAscending}
use Rattle.cmm_digraph.specs.inside.Searched.{Leads, is_new, node_at, on_path, AreDue, IsStart, IsWithin, IsSearched}
use Rattle.cmm_digraph.proofs.Leading.{leads_self, leads_on, leads_through}
use Rattle.cmm_digraph.proofs.Due.{IsLast, due_done, due_kept, due_node, due_before, due_last, due_entered, entered, entered_path}
use Rattle.cmm_digraph.proofs.Starting.{start_of}

pub among_place : (xs : List ℕ) (p : ℕ) → p < length xs → is_among (get_or xs p 0) xs ≡ true
among_place [] p h = absurd (omega arith)
among_place (x ∷ xs) zero h = among_first x xs
among_place (x ∷ xs) (suc p) h = among_later (get_or xs p 0) x xs (among_place xs p (omega arith))

-- each open node leads to the last of the path
pub to_path : (graph : List (List ℕ)) (states : List State) (open_ starts : List ℕ) (steps : List Step) (cyclic : List Bool) → IsSearched graph states open_ starts steps cyclic →
    (place : ℕ) → place < length open_ → ((other : ℕ) → is_among other (on_path steps) ≡ true → other ≤ place) → (i : ℕ) → i < length open_ →
    Leads graph (node_at open_ i) (node_at open_ place)
to_path graph states open_ starts steps cyclic s place within most i lt =
    let last : ℕ = length open_ - 1 in
    let start : (b : ℕ) × IsStart starts b last = start_of starts last (s.first (omega arith)) in
    let before : start.0 ≤ place = most start.0 (s.starting start.0 start.1.among) in
    leads_through graph (node_at open_ i) (node_at open_ last) (node_at open_ place) (s.along i last (omega arith) (omega arith))
    (leads_through graph (node_at open_ last) (node_at open_ start.0) (node_at open_ place) (s.back start.0 last (omega arith) start.1) (s.along start.0 place before within))

-- a node that has been found
pub entered_old : (graph : List (List ℕ)) (states : List State) (open_ starts : List ℕ) (v : ℕ) (steps : List Step) (cyclic : List Bool) →
    IsSearched graph states open_ starts (Enter v ∷ steps) cyclic → is_new (state_of states v) ≡ false → IsSearched graph states open_ starts steps cyclic
entered_old graph states open_ starts v steps cyclic s old = record {
  size = s.size;
  flags = s.flags;
  due = due_done graph states open_ steps v (length open_) old s.due;
  places = s.places;
  opened = s.opened;
  closed = s.closed;
  along = s.along;
  back = s.back;
  ascending = s.ascending;
  first = s.first;
  starting = s.starting;
  left = s.left;
  told = s.told;
  known = s.known;
}

module _ (graph : List (List ℕ)) (is : is_graph graph ≡ true) (states : List State) (open_ starts : List ℕ) (v : ℕ) (steps : List Step) (cyclic : List Bool)
    (s : IsSearched graph states open_ starts (Enter v ∷ steps) cyclic) (new : state_of states v ≡ New) where
  abbrev place : ℕ
  place = length open_

  abbrev states' : List State
  states' = set states v (Open place)

  abbrev open' : List ℕ
  open' = open_ ++ v ∷ []

  abbrev starts' : List ℕ
  starts' = starts ++ place ∷ []

  is_node : v < length graph
  is_node = due_node graph is states open_ steps (v ∷ []) place s.due v (among_first v [])

  state_here : state_of states' v ≡ Open place
  state_here = let size : length states ≡ length graph = s.size in let lt : v < length graph = is_node in get_or-set_same states v (Open place) New (omega arith)

  state_there : (u : ℕ) → (u ≡ v → ⊥) → state_of states' u ≡ state_of states u
  state_there u other = get_or-set_other states v u (Open place) New other

  -- a node that isn't new is another
  other_of : (u : ℕ) (t : State) → state_of states u ≡ t → is_new t ≡ false → u ≡ v → ⊥
  other_of u t at old same = let e : t ≡ New = sym at ∙ ap (state_of states) same ∙ new in let f : true ≡ false = sym (ap is_new e) ∙ old in cc

  size' : length open' ≡ place + 1
  size' = length-append open_ (v ∷ [])

  node_old : (i : ℕ) → i < place → node_at open' i ≡ node_at open_ i
  node_old i lt = get_or_append_left open_ (v ∷ []) 0 i lt

  node_new : node_at open' place ≡ v
  node_new = get_or-append_seam open_ v [] 0

  open_other : (i : ℕ) → i < place → node_at open_ i ≡ v → ⊥
  open_other i lt = other_of (node_at open_ i) (Open i) (s.places i lt) refl

  leads_new : (i : ℕ) → i < place → Leads graph (node_at open_ i) v
  leads_new i lt =
      let last : (at : ℕ) × IsLast graph open_ steps (v ∷ []) place at = due_last graph states open_ steps (v ∷ []) place s.due 0 (s.starting 0 (s.first (omega arith))) in
      leads_on graph (node_at open_ i) (node_at open_ last.0) v (to_path graph states open_ starts (Enter v ∷ steps) cyclic s last.0 last.1.before last.1.most i lt) (last.1.asks v (among_first v []))

  older : (u : ℕ) → is_new (state_of states' u) ≡ true → is_new (state_of states u) ≡ true
  older u h = elim (cases_eq u v) [
    | inl same ↦ ap (λ n. is_new (state_of states n)) same ∙ ap is_new new
    | inr other ↦ sym (ap is_new (state_there u other)) ∙ h
  ]

  due' : AreDue graph states' open' (entered (mentions graph v) (Leave place ∷ steps)) [] (length open')
  due' =
      let size : length open' ≡ place + 1 = size' in
      let before : AreDue graph states' open' (Enter v ∷ steps) [] place = due_kept graph states states' open_ open' (Enter v ∷ steps) [] place older node_old s.due in
      due_entered graph states' open' (mentions graph v) (Leave place ∷ steps) (length open') (
        omega arith,
        record {
          all = λ node want young. sym (ap (λ n. is_among node (mentions graph n)) node_new) ∙ want;
          only = λ node there. ap (λ n. is_among node (mentions graph n)) node_new ∙ there;
        },
        due_done graph states' open' steps v place (ap is_new state_here) before,
      )

  along' : (i j : ℕ) → i ≤ j → j < length open' → Leads graph (node_at open' i) (node_at open' j)
  along' i j le lt = by (cases_lt i place) (cases_lt j place)
    where
      by : (i < place) ⊎ (place ≤ i) → (j < place) ⊎ (place ≤ j) → Leads graph (node_at open' i) (node_at open' j)
      by (inl a) (inl b) = subst (λ (n : ℕ). Leads graph n (node_at open' j)) (sym (node_old i a)) (subst (λ (n : ℕ). Leads graph (node_at open_ i) n) (sym (node_old j b)) (s.along i j le b))
      by (inl a) (inr b) = let size : length open' ≡ place + 1 = size' in let e : j ≡ place = omega arith in
          subst (λ (n : ℕ). Leads graph n (node_at open' j)) (sym (node_old i a)) (subst (λ (n : ℕ). Leads graph (node_at open_ i) n) (sym (ap (node_at open') e ∙ node_new)) (leads_new i a))
      by (inr a) b = let size : length open' ≡ place + 1 = size' in let e : j ≡ i = omega arith in subst (λ (n : ℕ). Leads graph (node_at open' i) (node_at open' n)) (sym e) (leads_self graph (node_at open' i))

  start_cases : (b : ℕ) → is_among b starts' ≡ true → (is_among b starts ≡ true) ⊎ (b ≡ place)
  start_cases b there = elim (or_cases (is_among b starts) (place == b) (sym (among-last b starts place) ∙ there)) [
    | inl old ↦ inl old
    | inr same ↦ inr (sym (eqb-true place b same))
  ]

  start_old : (b : ℕ) → is_among b starts ≡ true → is_among b starts' ≡ true
  start_old b there = among-last b starts place ∙ ap (λ c. c || (place == b)) there

  start_new : is_among place starts' ≡ true
  start_new = among-last place starts place ∙ or_right (is_among place starts) (place == place) (eq-eqb place place refl)

  start_before : (b : ℕ) → is_among b starts ≡ true → b < place
  start_before b there = due_before graph states open_ steps (v ∷ []) place s.due b (s.starting b there)

  back' : (b i : ℕ) → i < length open' → IsStart starts' b i → Leads graph (node_at open' i) (node_at open' b)
  back' b i lt start = by (cases_lt i place) (start_cases b start.among)
    where
      by : (i < place) ⊎ (place ≤ i) → (is_among b starts ≡ true) ⊎ (b ≡ place) → Leads graph (node_at open' i) (node_at open' b)
      by (inl a) (inl old) =
          let before : b ≤ i = start.before in
          let small : b < place = omega arith in
          subst (λ (n : ℕ). Leads graph n (node_at open' b)) (sym (node_old i a)) (subst (λ (n : ℕ). Leads graph (node_at open_ i) n) (sym (node_old b small))
          (s.back b i a (record { among = old; before = before; last = λ other there le. start.last other (start_old other there) le })))
      by (inl a) (inr same) = let before : b ≤ i = start.before in absurd (omega arith)
      by (inr a) old =
          let size : length open' ≡ place + 1 = size' in
          let before : b ≤ i = start.before in
          let after : place ≤ b = start.last place start_new a in
          let e : b ≡ i = omega arith in subst (λ (n : ℕ). Leads graph (node_at open' i) (node_at open' n)) (sym e) (leads_self graph (node_at open' i))

  ascending' : IsAscending starts'
  ascending' i j lt within = by (cases_lt j (length starts))
    where
      by : (j < length starts) ⊎ (length starts ≤ j) → get_or starts' i 0 < get_or starts' j 0
      by (inl a) =
          let b : get_or starts i 0 < get_or starts j 0 = s.ascending i j lt a in
          let c : get_or starts' i 0 ≡ get_or starts i 0 = get_or_append_left starts (place ∷ []) 0 i (omega arith) in
          let d : get_or starts' j 0 ≡ get_or starts j 0 = get_or_append_left starts (place ∷ []) 0 j a in omega arith
      by (inr a) =
          let size : length starts' ≡ length starts + 1 = length-append starts (place ∷ []) in
          let e : j ≡ length starts = omega arith in
          let b : get_or starts i 0 < place = start_before (get_or starts i 0) (among_place starts i (omega arith)) in
          let c : get_or starts' i 0 ≡ get_or starts i 0 = get_or_append_left starts (place ∷ []) 0 i (omega arith) in
          let d : get_or starts' j 0 ≡ place = ap (λ n. get_or starts' n 0) e ∙ get_or-append_seam starts place [] 0 in omega arith

  within' : (i node : ℕ) → i < place → IsWithin states starts i node → IsWithin states' starts' i node
  within' i node lt (inl shut) = inl (state_there node (other_of node Closed shut refl) ∙ shut)
  within' i node lt (inr (at, opened, after)) =
      inr (
        at,
        state_there node (other_of node (Open at) opened refl) ∙ opened,
        λ start there le. elim (start_cases start there) [
          | inl old ↦ after start old le
          | inr same ↦ absurd (omega arith)
        ],
      )

  opened' : (node at : ℕ) → state_of states' node ≡ Open at → (at < length open') × (node_at open' at ≡ node)
  opened' node at h = by (cases_eq node v)
    where
      by : (node ≡ v) ⊎ (node ≡ v → ⊥) → (at < length open') × (node_at open' at ≡ node)
      by (inl same) =
          let e : Open at ≡ Open place = sym h ∙ ap (state_of states') same ∙ state_here in
          let f : at ≡ place = cc in let size : length open' ≡ place + 1 = size' in (omega arith, ap (node_at open') f ∙ node_new ∙ sym same)
      by (inr other) =
          let old : (at < place) × (node_at open_ at ≡ node) = s.opened node at (sym (state_there node other) ∙ h) in
          let lt : at < place = old.0 in let size : length open' ≡ place + 1 = size' in (omega arith, node_old at lt ∙ old.1)

  places' : (i : ℕ) → i < length open' → state_of states' (node_at open' i) ≡ Open i
  places' i lt = by (cases_lt i place)
    where
      by : (i < place) ⊎ (place ≤ i) → state_of states' (node_at open' i) ≡ Open i
      by (inl a) = ap (state_of states') (node_old i a) ∙ state_there (node_at open_ i) (open_other i a) ∙ s.places i a
      by (inr a) = let size : length open' ≡ place + 1 = size' in let e : i ≡ place = omega arith in
          ap (λ n. state_of states' (node_at open' n)) e ∙ ap (state_of states') node_new ∙ state_here ∙ ap Open (sym e)

  shut_before : (node : ℕ) → state_of states' node ≡ Closed → state_of states node ≡ Closed
  shut_before node h = elim (cases_eq node v) [
    | inl same ↦ let e : Closed ≡ Open place = sym h ∙ ap (state_of states') same ∙ state_here in cc
    | inr other ↦ sym (state_there node other) ∙ h
  ]

  shut_still : (node : ℕ) → state_of states node ≡ Closed → state_of states' node ≡ Closed
  shut_still node h = state_there node (other_of node Closed h refl) ∙ h

  path' : on_path (entered (mentions graph v) (Leave place ∷ steps)) ≡ place ∷ on_path steps
  path' = entered_path (mentions graph v) (Leave place ∷ steps)

  -- a place that isn't on the path is an old one
  off_path : (i : ℕ) → i < length open' → is_among i (on_path (entered (mentions graph v) (Leave place ∷ steps))) ≡ false → (i < place) × (is_among i (on_path steps) ≡ false)
  off_path i lt off = by (cases_lt i place) (cases_Bool (is_among i (on_path steps)))
    where
      off' : ((place == i) || is_among i (on_path steps)) ≡ false
      off' = sym (ap (is_among i) path') ∙ off

      by : (i < place) ⊎ (place ≤ i) → (is_among i (on_path steps) ≡ true) ⊎ (is_among i (on_path steps) ≡ false) → (i < place) × (is_among i (on_path steps) ≡ false)
      by (inl a) (inr none) = (a, none)
      by b (inl there) = let f : true ≡ false = sym (or_right (place == i) (is_among i (on_path steps)) there) ∙ off' in cc
      by (inr a) (inr none) =
          let size : length open' ≡ place + 1 = size' in
          let e : place ≡ i = omega arith in
          let f : true ≡ false = sym (ap (λ b. b || is_among i (on_path steps)) (eq-eqb place i e)) ∙ off' in cc

  -- a new node is opened
  pub entered_new : IsSearched graph states' open' starts' (entered (mentions graph v) (Leave place ∷ steps)) cyclic
  entered_new = record {
    size = length-set states v (Open place) ∙ s.size;
    flags = s.flags;
    due = due';
    places = places';
    opened = opened';
    closed = λ node other shut among. shut_still other (s.closed node other (shut_before node shut) among);
    along = along';
    back = back';
    ascending = ascending';
    first = λ some. elim (cases_lt 0 place) [
      | inl more ↦ start_old 0 (s.first more)
      | inr none ↦ let e : place ≡ 0 = omega arith in subst (λ (n : ℕ). is_among n starts' ≡ true) e start_new
    ];
    starting = λ start there. ap (is_among start) path' ∙ elim (start_cases start there) [
      | inl old ↦ or_right (place == start) (is_among start (on_path steps)) (s.starting start old)
      | inr same ↦ ap (λ b. b || is_among start (on_path steps)) (eq-eqb place start (sym same))
    ];
    left = λ i lt off node among.
        let old : (i < place) × (is_among i (on_path steps) ≡ false) = off_path i lt off in
        within' i node old.0 (s.left i old.0 old.1 node (sym (ap (λ n. is_among node (mentions graph n)) (node_old i old.0)) ∙ among));
    told = λ i lt off.
        let old : (i < place) × (is_among i (on_path steps) ≡ false) = off_path i lt off in
        ap (λ n. get_or cyclic n false) (node_old i old.0) ∙ s.told i old.0 old.1 ∙ ap (comes_back graph) (sym (node_old i old.0));
    known = λ node shut. s.known node (shut_before node shut);
  }

  -- the same, as it is read
  pub entered_as : (at : ℕ) (opened starting : List ℕ) (todo : List Step) → at ≡ place → opened ≡ open_ ++ v ∷ [] → starting ≡ starts ++ at ∷ [] → todo ≡ entered (mentions graph v) (Leave at ∷ steps) →
      IsSearched graph (set states v (Open at)) opened starting todo cyclic
  entered_as at opened starting todo here one begun all =
      subst (λ (n : ℕ). IsSearched graph (set states v (Open n)) opened starting todo cyclic) (sym here)
      (subst (λ (q : List ℕ). IsSearched graph states' q starting todo cyclic) (sym one)
      (subst (λ (q : List ℕ). IsSearched graph states' open' q todo cyclic) (sym (begun ∙ ap (λ (n : ℕ). starts ++ n ∷ []) here))
      (subst (λ (q : List Step). IsSearched graph states' open' starts' q cyclic) (sym (all ∙ ap (λ (n : ℕ). entered (mentions graph v) (Leave n ∷ steps)) here)) entered_new)))
