-- Each neighbour of a node once.
use Rattle.std.specs.Prelude.{◌≡◌, ◌⊎◌, ℕ, ◌<◌, true, List, length, slice_index_or, Option, Some, None}
use Rattle.cmm_ilist.specs.NodeLists.{has, is_distinct}
use Rattle.cmm_colour.specs.Graphs.{row}

abbrev pub mark_of : List (Option ℕ) → ℕ → Option ℕ
mark_of seen w = slice_index_or seen w None

-- all are below a count
abbrev pub AreBelow : ℕ → List ℕ → Type 0
AreBelow count nodes = (w : ℕ) → has w nodes ≡ true → w < count

-- the same nodes, each once
pub record IsOnce (nodes once : List ℕ) : Type 0 where
  pub distinct : is_distinct once ≡ true
  pub same : (w : ℕ) → has w once ≡ has w nodes

-- marks were set to one more
pub record IsMarked (mark : ℕ) (old new : List (Option ℕ)) : Type 0 where
  pub size : length new ≡ length old
  pub marks : (w m : ℕ) → mark_of new w ≡ Some m → (m ≡ mark) ⊎ (mark_of old w ≡ Some m)

-- so it is of each node
pub record AreOnce (graph simple : List (List ℕ)) : Type 0 where
  pub size : length simple ≡ length graph
  pub rows : (v : ℕ) → IsOnce (row graph v) (row simple v)
