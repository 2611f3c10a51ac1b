-- Words that are laid one after the other.
use Rattle.std.specs.Prelude.{ℕ, zero, suc, ◌+◌, List, [], ◌∷◌}

-- a word for each register, from an offset on
abbrev pub words_from : ℕ → List ℕ → List (ℕ × ℕ)
words_from at [] = []
words_from at (r ∷ rs) = (r, at) ∷ words_from (at + 8) rs

-- n pairs of words
abbrev pub pairs_from : ℕ → ℕ → List ℕ
pairs_from at zero = []
pairs_from at (suc k) = at ∷ pairs_from (at + 16) k
