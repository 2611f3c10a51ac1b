-- A search of a graph, depth first.
use Rattle.std.specs.Prelude.{◌≡◌, ◌⊎◌, ℕ, suc, ◌+◌, ◌<◌, ◌≤◌, Bool, true, false, List, [], ◌∷◌, length, get_or, reverse}
use Rattle.cmm_digraph.specs.Graphs.{is_among, mentions}
use Rattle.cmm_digraph.specs.Reaching.{reaches, comes_back}
use Rattle.cmm_digraph.specs.inside.Components.{state_of, IsAscending}
use Rattle.cmm_digraph.specs.declared.search.Search.{Search}
use Rattle.cmm_digraph.specs.declared.search.State.{State}
use Rattle.cmm_digraph.specs.declared.search.State.TheVariants.{New, Open, Closed}
use Rattle.cmm_digraph.specs.declared.search.Step.{Step}
use Rattle.cmm_digraph.specs.declared.search.Step.TheVariants.{Enter, Leave}

-- a node is another or leads to it
abbrev pub Leads : List (List ℕ) → ℕ → ℕ → Type 0
Leads graph from to = (count : ℕ) × (reaches graph count to (from ∷ []) ≡ true)

abbrev pub is_new : State → Bool
is_new state = elim state [ New ↦ true | _ ↦ false ]

abbrev pub node_at : List ℕ → ℕ → ℕ
node_at open_ place = get_or open_ place 0

-- the places of nodes that have yet to be left, the last first
abbrev pub on_path : List Step → List ℕ
on_path [] = []
on_path (Enter node ∷ steps) = on_path steps
on_path (Leave place ∷ steps) = place ∷ on_path steps

-- new nodes are asked for, and all that are asked for pass a test
pub record AreAsked (wanted : ℕ → Type 0) (states : List State) (asked : List ℕ) : Type 0 where
  pub all : (node : ℕ) → wanted node → is_new (state_of states node) ≡ true → is_among node asked ≡ true
  pub only : (node : ℕ) → is_among node asked ≡ true → wanted node

-- the steps, the last first: before an open node is left, what it mentions is entered, and before the search ends, each node
abbrev pub AreDue : List (List ℕ) → List State → List ℕ → List Step → List ℕ → ℕ → Type 0
AreDue graph states open_ [] asked limit = AreAsked (λ node. node < length graph) states asked
AreDue graph states open_ (Enter node ∷ steps) asked limit = AreDue graph states open_ steps (node ∷ asked) limit
AreDue graph states open_ (Leave place ∷ steps) asked limit =
    (place < limit) × AreAsked (λ node. is_among node (mentions graph (node_at open_ place)) ≡ true) states asked × AreDue graph states open_ steps [] place

-- the component of an open node begins there, as far as is known
pub record IsStart (starts : List ℕ) (start place : ℕ) : Type 0 where
  pub among : is_among start starts ≡ true
  pub before : start ≤ place
  pub last : (other : ℕ) → is_among other starts ≡ true → other ≤ place → other ≤ start

-- a node is closed, or open in the component of a place or after it
abbrev pub IsWithin : List State → List ℕ → ℕ → ℕ → Type 0
IsWithin states starts place node =
    (state_of states node ≡ Closed) ⊎ ((at : ℕ) × (state_of states node ≡ Open at) × ((start : ℕ) → is_among start starts ≡ true → start ≤ place → start ≤ at))

pub record IsSearched (graph : List (List ℕ)) (states : List State) (open_ starts : List ℕ) (steps : List Step) (cyclic : List Bool) : Type 0 where
  pub size : length states ≡ length graph
  pub flags : length cyclic ≡ length graph
  pub due : AreDue graph states open_ steps [] (length open_)
  pub places : (place : ℕ) → place < length open_ → state_of states (node_at open_ place) ≡ Open place
  pub opened : (node place : ℕ) → state_of states node ≡ Open place → (place < length open_) × (node_at open_ place ≡ node)
  pub closed : (node other : ℕ) → state_of states node ≡ Closed → is_among other (mentions graph node) ≡ true → state_of states other ≡ Closed
  -- each open node leads to those after it, and to the one at which its component begins
  pub along : (i j : ℕ) → i ≤ j → j < length open_ → Leads graph (node_at open_ i) (node_at open_ j)
  pub back : (start place : ℕ) → place < length open_ → IsStart starts start place → Leads graph (node_at open_ place) (node_at open_ start)
  pub ascending : IsAscending starts
  pub first : 0 < length open_ → is_among 0 starts ≡ true
  pub starting : (start : ℕ) → is_among start starts ≡ true → is_among start (on_path steps) ≡ true
  -- what an open node that has been left mentions is closed or not before its component
  pub left : (place : ℕ) → place < length open_ → is_among place (on_path steps) ≡ false → (node : ℕ) → is_among node (mentions graph (node_at open_ place)) ≡ true →
      IsWithin states starts place node
  pub told : (place : ℕ) → place < length open_ → is_among place (on_path steps) ≡ false → get_or cyclic (node_at open_ place) false ≡ comes_back graph (node_at open_ place)
  pub known : (node : ℕ) → state_of states node ≡ Closed → get_or cyclic node false ≡ comes_back graph node

abbrev pub IsSearch : List (List ℕ) → Search → Type 0
IsSearch graph search = IsSearched graph search.states.items search.open.items search.starts.items (reverse search.steps.items) search.cyclic.items

-- a search that has taken a step off
abbrev pub IsSearchAt : List (List ℕ) → Step → Search → Type 0
IsSearchAt graph step search = IsSearched graph search.states.items search.open.items search.starts.items (step ∷ reverse search.steps.items) search.cyclic.items

-- a new node is left, once what it mentions has been entered
abbrev pub steps_of : State → List ℕ → ℕ
steps_of New row = suc (length row)
steps_of _ row = 0

-- the steps to come of new nodes
abbrev pub to_come : List State → List (List ℕ) → ℕ
to_come [] rows = 0
to_come (s ∷ states) [] = 0
to_come (s ∷ states) (row ∷ rows) = steps_of s row + to_come states rows

-- the steps that are left
abbrev pub work : List (List ℕ) → Search → ℕ
work graph search = length search.steps.items + to_come search.states.items graph
