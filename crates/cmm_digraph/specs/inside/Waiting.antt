-- How many mentions each node still waits for while a graph is peeled.
use Rattle.std.specs.Prelude.{◌≡◌, ℕ, ◌+◌, ◌==◌, ◌<◌, ◌≤◌, not, Bool, true, false, List, [], ◌∷◌, ◌++◌, length, slice_index, take}
use Rattle.cmm_digraph.specs.Graphs.{one_if, occurrences, is_among, are_below, mentions}
use Rattle.cmm_digraph.specs.Peeled.{is_ordered}

-- it waits for others, or for none
abbrev pub is_wanted : Bool → ℕ → Bool
is_wanted true count = not (count == 0)
is_wanted false count = count == 0

abbrev pub wanted : Bool → List ℕ → ℕ
wanted wait [] = 0
wanted wait (c ∷ cs) = one_if (is_wanted wait c) + wanted wait cs

-- how many mentions are not of nodes that are done
abbrev pub missing : List ℕ → List ℕ → ℕ
missing done [] = 0
missing done (m ∷ ms) = one_if (not (is_among m done)) + missing done ms

abbrev pub zeros : List ℕ → ℕ
zeros waiting = wanted false waiting

-- the nodes that wait for others, or those that wait for none
pub record AreNumbered (wait : Bool) (waiting nodes : List ℕ) : Type 0 where
  pub once : (u : ℕ) → u < length waiting → occurrences u nodes ≡ one_if (is_wanted wait (slice_index waiting u))
  pub total : length nodes ≡ wanted wait waiting
  pub below : are_below (length waiting) nodes ≡ true

-- who mentions each node, as often as it does
abbrev pub AreUsers : List (List ℕ) → List (List ℕ) → Type 0
AreUsers graph users = (v u : ℕ) → v < length graph → occurrences u (mentions users v) ≡ occurrences v (mentions graph u)

-- each of some nodes waits as often as it stands there
pub record CanRelease (waiting users : List ℕ) : Type 0 where
  pub nodes : are_below (length waiting) users ≡ true
  pub often : (u : ℕ) → u < length waiting → occurrences u users ≤ slice_index waiting u

-- nodes have one mention less to wait for, each as often as it stands in a list, and those that wait no longer are added to the order
pub record IsReleased (waiting order users waiting' order' : List ℕ) : Type 0 where
  pub size : length waiting' ≡ length waiting
  pub counts : (u : ℕ) → u < length waiting → slice_index waiting' u + occurrences u users ≡ slice_index waiting u
  pub freed : (u : ℕ) → u < length waiting →
      occurrences u order' + one_if (slice_index waiting u == 0) ≡ occurrences u order + one_if (slice_index waiting' u == 0)
  pub total : length order' + zeros waiting ≡ length order + zeros waiting'
  pub more : List ℕ
  pub grown : order' ≡ order ++ more
  pub nodes : are_below (length waiting) more ≡ true

-- n nodes of the order are done: those in it are the ones that wait for no other
pub record IsWaiting (graph : List (List ℕ)) (waiting order : List ℕ) (head : ℕ) : Type 0 where
  pub size : length waiting ≡ length graph
  pub within : head ≤ length order
  pub counts : (u : ℕ) → u < length graph → slice_index waiting u ≡ missing (take head order) (mentions graph u)
  pub once : (u : ℕ) → u < length graph → occurrences u order ≡ one_if (slice_index waiting u == 0)
  pub total : length order ≡ zeros waiting
  pub nodes : are_below (length graph) order ≡ true
  pub ordered : is_ordered graph [] order ≡ true
