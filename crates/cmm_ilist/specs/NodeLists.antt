-- What lists of nodes are to who uses them: how many nodes there are, and the nodes of each list, in their order. A node is a number.
use Rattle.std.specs.Prelude.{◌≡◌, ℕ, ◌<◌, ◌==◌, ◌&&◌, not, Bool, true, false, filter, List, [], ◌∷◌, slice_index_or, Option, Some, None}
use Rattle.std.specs.List.{list_any}

pub record NodeLists : Type 0 where
  pub nodes : ℕ
  pub lists : List (List ℕ)

-- the list of a number
abbrev pub list_at : List (List ℕ) → ℕ → List ℕ
list_at lists k = slice_index_or lists k []

-- whether a list has a node
abbrev pub has : ℕ → List ℕ → Bool
has x xs = list_any (λ y. y == x) xs

-- no node stands twice in it
abbrev pub is_distinct : List ℕ → Bool
is_distinct [] = true
is_distinct (x ∷ xs) = not (has x xs) && is_distinct xs

-- whether one of the lists has it
abbrev pub is_in_some : ℕ → List (List ℕ) → Bool
is_in_some x lists = list_any (has x) lists

-- none does
abbrev pub IsInNone : ℕ → List (List ℕ) → Type 0
IsInNone x lists = (k : ℕ) → has x (list_at lists k) ≡ false

abbrev pub front_of : List ℕ → Option ℕ
front_of [] = None
front_of (x ∷ xs) = Some x

-- the node behind a node
abbrev pub after_in : ℕ → List ℕ → Option ℕ
after_in x [] = None
after_in x (y ∷ ys) = elim (y == x) [ true ↦ front_of ys | false ↦ after_in x ys ]

-- the other nodes
abbrev pub without : ℕ → List ℕ → List ℕ
without x xs = filter (λ y. not (y == x)) xs

-- each node is below the count, stands in a list once, and in one list at most
pub record AreApart (l : NodeLists) : Type 0 where
  pub below : (k x : ℕ) → has x (list_at l.lists k) ≡ true → x < l.nodes
  pub once : (k : ℕ) → is_distinct (list_at l.lists k) ≡ true
  pub one : (j k x : ℕ) → has x (list_at l.lists j) ≡ true → has x (list_at l.lists k) ≡ true → j ≡ k
