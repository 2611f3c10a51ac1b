-- Graphs: for each node, which are numbered from 0, the nodes that it mentions.
use Rattle.std.specs.Prelude.{ℕ, ◌+◌, ◌==◌, ◌||◌, nat_lt, Bool, true, false, List, [], ◌∷◌, length, slice_index_or}
use Rattle.std.specs.List.{list_all}

abbrev pub one_if : Bool → ℕ
one_if test = elim test [ true ↦ 1 | false ↦ 0 ]

-- how often a node stands in a list
abbrev pub occurrences : ℕ → List ℕ → ℕ
occurrences node [] = 0
occurrences node (n ∷ ns) = one_if (n == node) + occurrences node ns

abbrev pub is_among : ℕ → List ℕ → Bool
is_among node [] = false
is_among node (n ∷ ns) = (n == node) || is_among node ns

-- all of some nodes stand in a list
abbrev pub are_among : List ℕ → List ℕ → Bool
are_among nodes ns = list_all (λ n. is_among n ns) nodes

abbrev pub are_below : ℕ → List ℕ → Bool
are_below size nodes = list_all (λ n. nat_lt n size) nodes

abbrev pub mentions : List (List ℕ) → ℕ → List ℕ
mentions graph node = slice_index_or graph node []

-- what nodes mention are nodes
abbrev pub is_graph : List (List ℕ) → Bool
is_graph graph = list_all (are_below (length graph)) graph
