-- What joining two nodes does to who is joined to whom.
use Rattle.std.specs.Prelude.{◌≡◌, ◌≢◌, ℕ, ◌<◌, ◌&&◌, ◌||◌, ◌==◌, List, length}
use Rattle.cmm_colour.specs.Graphs.{adjacent, joined}

-- these two are joined, and else who was
abbrev pub JoinsAreAdjacent : Type 0
JoinsAreAdjacent = (graph : List (List ℕ)) (a b v w : ℕ) → a < length graph → b < length graph → a ≢ b →
    adjacent (joined a b graph) v w ≡ (adjacent graph v w || (((v == a) && (w == b)) || ((v == b) && (w == a))))
