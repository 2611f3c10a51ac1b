-- Which nodes of a graph lead to which: for each node, by its number from 0, the nodes that it mentions.
use Rattle.std.specs.Prelude.{ℕ, zero, suc, ◌==◌, ◌||◌, Bool, false, List, length}
use Rattle.std.specs.List.{list_any}
use Rattle.cmm_digraph.specs.Graphs.{mentions}

-- some of these nodes is a node or leads to it, in n steps at most
abbrev pub reaches : List (List ℕ) → ℕ → ℕ → List ℕ → Bool
reaches graph zero node from = false
reaches graph (suc count) node from = list_any (λ n. (n == node) || reaches graph count node (mentions graph n)) from

-- a node leads to itself; more steps than there are nodes lead nowhere else
abbrev pub comes_back : List (List ℕ) → ℕ → Bool
comes_back graph node = reaches graph (length graph) node (mentions graph node)
