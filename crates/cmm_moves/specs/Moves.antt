-- Moves of numbers between places: what places have after moves that are done in order, and after moves that are done at once.
use Rattle.std.specs.Prelude.{ℕ, ◌==◌, ◌&&◌, not, if◌then◌else◌, Bool, true, List, [], ◌∷◌}
use Rattle.std.specs.List.{list_any}
use Rattle.cmm_moves.specs.declared.sequencing.Move.{Move}

-- what places have once one of them is given a number
abbrev pub given : (ℕ → ℕ) → ℕ → ℕ → ℕ → ℕ
given has place number x = if x == place then number else has x

-- each move is done on what the moves before it left
abbrev pub in_order : List Move → (ℕ → ℕ) → ℕ → ℕ
in_order [] has = has
in_order (m ∷ ms) has = in_order ms (given has m.to (has m.from))

-- each move takes what its source had before all of them
abbrev pub at_once : List Move → (ℕ → ℕ) → ℕ → ℕ
at_once [] has x = has x
at_once (m ∷ ms) has x = if x == m.to then has m.from else at_once ms has x

-- a place is the target, or the source, of a move
abbrev pub is_target : ℕ → List Move → Bool
is_target place ms = list_any (λ m. place == m.to) ms

abbrev pub is_source : ℕ → List Move → Bool
is_source place ms = list_any (λ m. place == m.from) ms

-- no two moves have one target
abbrev pub are_apart : List Move → Bool
are_apart [] = true
are_apart (m ∷ ms) = not (is_target m.to ms) && are_apart ms

-- a move mentions a place that does not pass a test
abbrev pub is_outside : (ℕ → Bool) → List Move → Bool
is_outside test ms = list_any (λ m. not (test m.to && test m.from)) ms
