-- Colours are chosen for the nodes of a graph, from the end of an order on.
use Rattle.std.specs.Prelude.{◌≡◌, ℕ, ◌<◌, ◌≤◌, Bool, true, false, List, [], ◌∷◌, drop, length, is_some, slice_index_or, Option, Some, None}
use Rattle.cmm_ilist.specs.NodeLists.{has}
use Rattle.cmm_colour.specs.Colours.{colour_of}
use Rattle.cmm_colour.specs.Graphs.{adjacent}

abbrev pub AreColoursBelow : ℕ → List (Option ℕ) → Type 0
AreColoursBelow k colours = (v c : ℕ) → colour_of colours v ≡ Some c → c < k

-- the colours that some nodes have
abbrev pub colours_of : List ℕ → List (Option ℕ) → List ℕ
colours_of [] colours = []
colours_of (v ∷ vs) colours = elim (colour_of colours v) [ Some c ↦ c ∷ colours_of vs colours | None ↦ colours_of vs colours ]

-- those below a count are marked, and no others
pub record IsTaken (k : ℕ) (nodes : List ℕ) (colours : List (Option ℕ)) (taken : List Bool) : Type 0 where
  pub size : length taken ≡ k
  pub marks : (c : ℕ) → c < k → slice_index_or taken c false ≡ has c (colours_of nodes colours)

-- The nodes of an order from one on have colours, but for some that are none of its first ones.
pub record AreChosen (rows : List (List ℕ)) (k : ℕ) (order : List ℕ) (peeled from : ℕ) (colours : List (Option ℕ)) : Type 0 where
  pub size : length colours ≡ length rows
  pub later : (v : ℕ) → is_some (colour_of colours v) ≡ true → has v (drop from order) ≡ true
  pub below : AreColoursBelow k colours
  pub proper : (v w c : ℕ) → adjacent rows v w ≡ true → colour_of colours v ≡ Some c → colour_of colours w ≡ Some c → ⊥
  pub full : (j : ℕ) → from ≤ j → j < peeled → is_some (colour_of colours (slice_index_or order j 0)) ≡ true
