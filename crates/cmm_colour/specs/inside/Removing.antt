-- Nodes are removed from a graph one by one.
use Rattle.std.specs.Prelude.{◌≡◌, ℕ, ◌+◌, ◌-◌, ◌<◌, ◌≤◌, ◌==◌, ◌||◌, not, nat_lt, Bool, true, false, filter, List, [], ◌∷◌, ◌++◌, length, map, slice_index_or, slice_set, take}
use Rattle.cmm_ilist.specs.NodeLists.{NodeLists, has, is_distinct, list_at, without}
use Rattle.cmm_colour.specs.Graphs.{IsUndirected, row}

-- a graph in which each neighbour stands once
pub record AreSimple (rows : List (List ℕ)) : Type 0 where
  pub undirected : IsUndirected rows
  pub distinct : (v : ℕ) → is_distinct (row rows v) ≡ true

abbrev pub one_if : Bool → ℕ
one_if true = 1
one_if false = 0

-- how many nodes of a list are not gone
abbrev pub left_of : List ℕ → List ℕ → ℕ
left_of gone nodes = length (filter (λ w. not (has w gone)) nodes)

-- whether a node is in one of the two lists
abbrev pub is_there : ℕ → NodeLists → Bool
is_there v l = has v (list_at l.lists 0) || has v (list_at l.lists 1)

abbrev pub degree_of : List ℕ → ℕ → ℕ
degree_of degrees v = slice_index_or degrees v 0

-- no node is there
abbrev pub IsNobody : NodeLists → Type 0
IsNobody l = (v : ℕ) → is_there v l ≡ false

abbrev pub list_for : ℕ → ℕ → ℕ
list_for k degree = elim (nat_lt degree k) [ true ↦ 0 | false ↦ 1 ]

-- These nodes are gone. All others are there, with the count of their neighbours that are not gone, and in the list for it.
pub record IsLeft (rows : List (List ℕ)) (k : ℕ) (gone degrees : List ℕ) (l : NodeLists) : Type 0 where
  pub nodes : l.nodes ≡ length rows
  pub lists : length l.lists ≡ 2
  pub sizes : length degrees ≡ length rows
  pub within : (v : ℕ) → is_there v l ≡ true → v < length rows
  pub gone_within : (v : ℕ) → has v gone ≡ true → v < length rows
  pub once : is_distinct gone ≡ true
  pub there : (v : ℕ) → v < length rows → is_there v l ≡ not (has v gone)
  pub degrees_are : (v : ℕ) → is_there v l ≡ true → degree_of degrees v ≡ left_of gone (row rows v)
  pub low : (v : ℕ) → has v (list_at l.lists 0) ≡ true → degree_of degrees v < k
  pub high : (v : ℕ) → has v (list_at l.lists 1) ≡ true → k ≤ degree_of degrees v

-- all nodes are in the lists for their degrees
pub record AreSorted (k : ℕ) (degrees : List ℕ) (l : NodeLists) : Type 0 where
  pub nodes : l.nodes ≡ length degrees
  pub lists : length l.lists ≡ 2
  pub within : (v : ℕ) → is_there v l ≡ true → v < length degrees
  pub there : (v : ℕ) → v < length degrees → is_there v l ≡ true
  pub low : (v : ℕ) → has v (list_at l.lists 0) ≡ true → degree_of degrees v < k
  pub high : (v : ℕ) → has v (list_at l.lists 1) ≡ true → k ≤ degree_of degrees v

-- ---- a node has one neighbour less

abbrev pub lowered_degrees : ℕ → NodeLists → List ℕ → List ℕ
lowered_degrees node l degrees = elim (is_there node l) [ true ↦ slice_set degrees node (degree_of degrees node - 1) | false ↦ degrees ]

-- taken out of its list, and put at the end of the first
abbrev pub moved : ℕ → List (List ℕ) → List (List ℕ)
moved node lists = slice_set (map (without node) lists) 0 (without node (list_at lists 0) ++ node ∷ [])

abbrev pub lowered_lists : ℕ → ℕ → NodeLists → List ℕ → List (List ℕ)
lowered_lists k node l degrees = elim (is_there node l) [
  | true ↦ elim (degree_of degrees node == k) [ true ↦ moved node l.lists | false ↦ l.lists ]
  | false ↦ l.lists
]

-- A node has been taken out, and some of its neighbours, which are done, know it. The nodes that were gone before stand in the first list.
pub record IsTelling (rows : List (List ℕ)) (k : ℕ) (gone : List ℕ) (node : ℕ) (told degrees : List ℕ) (l : NodeLists) : Type 0 where
  pub nodes : l.nodes ≡ length rows
  pub lists : length l.lists ≡ 2
  pub sizes : length degrees ≡ length rows
  pub within : (v : ℕ) → is_there v l ≡ true → v < length rows
  pub there : (v : ℕ) → v < length rows → is_there v l ≡ not (has v (gone ++ node ∷ []))
  pub degrees_are : (v : ℕ) → is_there v l ≡ true → degree_of degrees v + one_if (has v told) ≡ left_of gone (row rows v)
  pub low : (v : ℕ) → has v (list_at l.lists 0) ≡ true → degree_of degrees v < k
  pub high : (v : ℕ) → has v (list_at l.lists 1) ≡ true → k ≤ degree_of degrees v

-- ---- the order

-- All nodes in an order. Each of the first ones had fewer than k neighbours left when it was removed, and then none of the others had.
pub record AreRemoved (rows : List (List ℕ)) (k : ℕ) (order : List ℕ) (peeled : ℕ) : Type 0 where
  pub within : (v : ℕ) → has v order ≡ true → v < length rows
  pub once : is_distinct order ≡ true
  pub all : (v : ℕ) → v < length rows → has v order ≡ true
  pub few : (j : ℕ) → j < peeled → left_of (take j order) (row rows (slice_index_or order j 0)) < k
  pub front : peeled ≤ length order
  pub stuck : (v : ℕ) → v < length rows → has v (take peeled order) ≡ false → k ≤ left_of (take peeled order) (row rows v)
