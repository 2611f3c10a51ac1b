-- What a search has yet to do.
use Rattle.std.proofs.Common.{◌≡◌, ℕ, ◌<◌, ◌≤◌, ◌==◌, true, false, inl, inr, ◌⊎◌, List, [], ◌∷◌, ◌++◌, length, map, reverse, refl, sym, ◌∙◌, ap, subst, append_assoc, append-nil, arith}
use Rattle.std.proofs.lemmas.Bool.{or_cases, eqb-true, or_right, or_left}
use Rattle.std.proofs.lemmas.List.{reverse-append}
use Rattle.cmm_digraph.specs.Graphs.{is_among, is_graph, mentions}
use Rattle.cmm_digraph.specs.declared.search.State.{State}
use Rattle.cmm_digraph.specs.declared.search.Step.{Step}
use Rattle.cmm_digraph.specs.declared.search.Step.TheVariants.{Enter, Leave}
use Rattle.cmm_digraph.specs.inside.Components.{state_of}
use Rattle.cmm_digraph.specs.inside.Searched.{is_new, node_at, on_path, AreAsked, AreDue}
use Rattle.cmm_digraph.proofs.Shortening.{mention_below}

-- ---- other nodes are asked for

abbrev IsAskedFor : List State → List ℕ → List ℕ → Type 0
IsAskedFor states asked asked' = (node : ℕ) → is_among node asked ≡ true → (is_among node asked' ≡ true) ⊎ (is_new (state_of states node) ≡ false)

abbrev AreFewer : List ℕ → List ℕ → Type 0
AreFewer asked asked' = (node : ℕ) → is_among node asked' ≡ true → is_among node asked ≡ true

asked_wider : (wanted : ℕ → Type 0) (states : List State) (asked asked' : List ℕ) → IsAskedFor states asked asked' → AreFewer asked asked' → AreAsked wanted states asked → AreAsked wanted states asked'
asked_wider wanted states asked asked' still fewer are = record {
  all = λ node want new. elim (still node (are.all node want new)) [
    | inl there ↦ there
    | inr old ↦ let f : true ≡ false = sym new ∙ old in cc
  ];
  only = λ node there. are.only node (fewer node there);
}

one_more_for : (states : List State) (asked asked' : List ℕ) (x : ℕ) → IsAskedFor states asked asked' → IsAskedFor states (x ∷ asked) (x ∷ asked')
one_more_for states asked asked' x still node there = elim (or_cases (x == node) (is_among node asked) there) [
  | inl same ↦ inl (or_left (x == node) (is_among node asked') same)
  | inr later ↦
      elim (still node later) [
        | inl in_it ↦ inl (or_right (x == node) (is_among node asked') in_it)
        | inr old ↦ inr old
      ]
]

one_more_fewer : (asked asked' : List ℕ) (x : ℕ) → AreFewer asked asked' → AreFewer (x ∷ asked) (x ∷ asked')
one_more_fewer asked asked' x fewer node there = elim (or_cases (x == node) (is_among node asked') there) [
  | inl same ↦ or_left (x == node) (is_among node asked) same
  | inr later ↦ or_right (x == node) (is_among node asked) (fewer node later)
]

module _ (graph : List (List ℕ)) where
  pub due_wider : (states : List State) (open_ : List ℕ) (steps : List Step) (asked asked' : List ℕ) (limit : ℕ) → IsAskedFor states asked asked' → AreFewer asked asked' →
      AreDue graph states open_ steps asked limit → AreDue graph states open_ steps asked' limit
  due_wider states open_ [] asked asked' limit still fewer due = asked_wider (λ node. node < length graph) states asked asked' still fewer due
  due_wider states open_ (Enter x ∷ steps) asked asked' limit still fewer due =
      due_wider states open_ steps (x ∷ asked) (x ∷ asked') limit (one_more_for states asked asked' x still) (one_more_fewer asked asked' x fewer) due
  due_wider states open_ (Leave place ∷ steps) asked asked' limit still fewer due =
      (due.0, asked_wider (λ node. is_among node (mentions graph (node_at open_ place)) ≡ true) states asked asked' still fewer due.1, due.2)

  -- a node that is asked for is not new
  pub due_done : (states : List State) (open_ : List ℕ) (steps : List Step) (x limit : ℕ) → is_new (state_of states x) ≡ false → AreDue graph states open_ (Enter x ∷ steps) [] limit →
      AreDue graph states open_ steps [] limit
  due_done states open_ steps x limit old due = due_wider states open_ steps (x ∷ []) [] limit (λ node there. inr (is_old node there)) (λ node there. cc) due
    where
      is_old : (node : ℕ) → is_among node (x ∷ []) ≡ true → is_new (state_of states node) ≡ false
      is_old node there = elim (or_cases (x == node) false there) [
        | inl same ↦ subst (λ (n : ℕ). is_new (state_of states n) ≡ false) (eqb-true x node same) old
        | inr none ↦ cc
      ]

  -- more nodes are open
  pub due_more : (states : List State) (open_ : List ℕ) (steps : List Step) (asked : List ℕ) (limit limit' : ℕ) → limit ≤ limit' → AreDue graph states open_ steps asked limit →
      AreDue graph states open_ steps asked limit'
  due_more states open_ [] asked limit limit' le due = due
  due_more states open_ (Enter x ∷ steps) asked limit limit' le due = due_more states open_ steps (x ∷ asked) limit limit' le due
  due_more states open_ (Leave place ∷ steps) asked limit limit' le due = let lt : place < limit = due.0 in (omega arith, due.1, due.2)

  -- fewer nodes are new, and those that are to be left are the same
  abbrev AreOlder : List State → List State → Type 0
  AreOlder states states' = (node : ℕ) → is_new (state_of states' node) ≡ true → is_new (state_of states node) ≡ true

  asked_older : (wanted wanted' : ℕ → Type 0) (states states' : List State) (asked : List ℕ) → AreOlder states states' → ((node : ℕ) → wanted node → wanted' node) →
      ((node : ℕ) → wanted' node → wanted node) → AreAsked wanted states asked → AreAsked wanted' states' asked
  asked_older wanted wanted' states states' asked older to from are = record {
    all = λ node want new. are.all node (from node want) (older node new);
    only = λ node there. to node (are.only node there);
  }

  pub due_kept : (states states' : List State) (open_ open' : List ℕ) (steps : List Step) (asked : List ℕ) (limit : ℕ) → AreOlder states states' →
      ((place : ℕ) → place < limit → node_at open' place ≡ node_at open_ place) → AreDue graph states open_ steps asked limit → AreDue graph states' open' steps asked limit
  due_kept states states' open_ open' [] asked limit older same due =
      asked_older (λ node. node < length graph) (λ node. node < length graph) states states' asked older (λ node want. want) (λ node want. want) due
  due_kept states states' open_ open' (Enter x ∷ steps) asked limit older same due = due_kept states states' open_ open' steps (x ∷ asked) limit older same due
  due_kept states states' open_ open' (Leave place ∷ steps) asked limit older same due =
      let lt : place < limit = due.0 in
      let e : node_at open' place ≡ node_at open_ place = same place lt in (
        lt,
        asked_older (λ node. is_among node (mentions graph (node_at open_ place)) ≡ true) (λ node. is_among node (mentions graph (node_at open' place)) ≡ true) states states' asked older
            (λ node want. ap (λ n. is_among node (mentions graph n)) e ∙ want) (λ node want. ap (λ n. is_among node (mentions graph n)) (sym e) ∙ want) due.1,
        due_kept states states' open_ open' steps [] place older (λ other before. same other (omega arith)) due.2,
      )

  -- ---- what is asked for is a node

  pub due_node : is_graph graph ≡ true → (states : List State) (open_ : List ℕ) (steps : List Step) (asked : List ℕ) (limit : ℕ) → AreDue graph states open_ steps asked limit →
      (node : ℕ) → is_among node asked ≡ true → node < length graph
  due_node is states open_ [] asked limit due node there = due.only node there
  due_node is states open_ (Enter x ∷ steps) asked limit due node there = due_node is states open_ steps (x ∷ asked) limit due node (or_right (x == node) (is_among node asked) there)
  due_node is states open_ (Leave place ∷ steps) asked limit due node there = mention_below graph is (node_at open_ place) node (due.1.only node there)

  pub due_before : (states : List State) (open_ : List ℕ) (steps : List Step) (asked : List ℕ) (limit : ℕ) → AreDue graph states open_ steps asked limit →
      (place : ℕ) → is_among place (on_path steps) ≡ true → place < limit
  due_before states open_ [] asked limit due place there = cc
  due_before states open_ (Enter x ∷ steps) asked limit due place there = due_before states open_ steps (x ∷ asked) limit due place there
  due_before states open_ (Leave at ∷ steps) asked limit due place there = let lt : at < limit = due.0 in elim (or_cases (at == place) (is_among place (on_path steps)) there) [
    | inl same ↦ let s : at ≡ place = eqb-true at place same in omega arith
    | inr later ↦ let before : place < at = due_before states open_ steps [] at due.2 place later in omega arith
  ]

  -- and mentioned by the last node of the path, if there is one
  pub record IsLast (open_ : List ℕ) (steps : List Step) (asked : List ℕ) (limit place : ℕ) : Type 0 where
    pub before : place < limit
    pub most : (other : ℕ) → is_among other (on_path steps) ≡ true → other ≤ place
    pub asks : (node : ℕ) → is_among node asked ≡ true → is_among node (mentions graph (node_at open_ place)) ≡ true

  pub due_last : (states : List State) (open_ : List ℕ) (steps : List Step) (asked : List ℕ) (limit : ℕ) → AreDue graph states open_ steps asked limit →
      (start : ℕ) → is_among start (on_path steps) ≡ true → (place : ℕ) × IsLast open_ steps asked limit place
  due_last states open_ [] asked limit due start there = cc
  due_last states open_ (Enter x ∷ steps) asked limit due start there =
      let last : (place : ℕ) × IsLast open_ steps (x ∷ asked) limit place = due_last states open_ steps (x ∷ asked) limit due start there in
      (last.0, record { before = last.1.before; most = last.1.most; asks = λ node in_it. last.1.asks node (or_right (x == node) (is_among node asked) in_it) })
  due_last states open_ (Leave place ∷ steps) asked limit due start there = (place, record { before = due.0; most = λ other h. most other (or_cases (place == other) (is_among other (on_path steps)) h); asks = due.1.only })
    where
      most : (other : ℕ) → ((place == other) ≡ true) ⊎ (is_among other (on_path steps) ≡ true) → other ≤ place
      most other (inl same) = let s : place ≡ other = eqb-true place other same in omega arith
      most other (inr later) = let b : other < place = due_before states open_ steps [] place due.2 other later in omega arith

-- ---- steps that enter nodes

pub entered : List ℕ → List Step → List Step
entered [] steps = steps
entered (node ∷ nodes) steps = entered nodes (Enter node ∷ steps)

pub entered_last : (nodes : List ℕ) (steps : List Step) → reverse (steps ++ map Enter nodes) ≡ entered nodes (reverse steps)
unfolding entered
entered_last [] steps = ap reverse (append-nil steps)
entered_last (node ∷ nodes) steps =
    ap reverse (sym (append_assoc steps (Enter node ∷ []) (map Enter nodes))) ∙ entered_last nodes (steps ++ Enter node ∷ []) ∙ ap (entered nodes) (reverse-append steps (Enter node ∷ []))

pub entered_path : (nodes : List ℕ) (steps : List Step) → on_path (entered nodes steps) ≡ on_path steps
unfolding entered
entered_path [] steps = refl
entered_path (node ∷ nodes) steps = entered_path nodes (Enter node ∷ steps)

module _ (graph : List (List ℕ)) (states : List State) (open_ : List ℕ) where
  entered_onto : (nodes : List ℕ) (steps : List Step) (asked : List ℕ) (limit : ℕ) → AreDue graph states open_ steps (nodes ++ asked) limit →
      AreDue graph states open_ (entered nodes steps) asked limit
  unfolding entered
  entered_onto [] steps asked limit due = due
  entered_onto (node ∷ nodes) steps asked limit due = entered_onto nodes (Enter node ∷ steps) asked limit due

  pub due_entered : (nodes : List ℕ) (steps : List Step) (limit : ℕ) → AreDue graph states open_ steps nodes limit → AreDue graph states open_ (entered nodes steps) [] limit
  due_entered nodes steps limit due = entered_onto nodes steps [] limit (subst (λ (asked : List ℕ). AreDue graph states open_ steps asked limit) (sym (append-nil nodes)) due)
