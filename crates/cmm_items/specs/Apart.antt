-- Places of eight bytes in a row of bytes, as those that a linker fills in.
use Rattle.std.specs.Prelude.{ℕ, ◌+◌, ◌≤◌, List, [], ◌∷◌}

-- each has eight of n bytes to itself, from its place on, which follow those of the one before
abbrev pub AreApart : {A : Type 0} → (A → ℕ) → ℕ → List A → ℕ → Type 0
AreApart place from [] n = from ≤ n
AreApart place from (f ∷ fs) n = (from ≤ place f) × AreApart place (place f + 8) fs n
