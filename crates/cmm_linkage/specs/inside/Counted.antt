-- Which declarations count.
use Rattle.std.specs.Prelude.{ℕ, ◌==◌, Bool, true, false, List, [], ◌∷◌, Option, Some, None}
use Rattle.cmm_static_semantics.specs.Declarations.{Declared, Entry}
use Rattle.cmm_symbols.specs.Numbering.{numbering, number_in}

-- whether this is the number of something
abbrev pub is_numbered : ℕ → Option ℕ → Bool
is_numbered number (Some n) = n == number
is_numbered number None = false

-- the declaration with a number, if it counts: it is the first of its name, which is none of the host's
abbrev pub counted : List (Declared Entry) → ℕ → Declared Entry → List (Declared Entry)
counted ds number d = elim (is_numbered number (number_in (numbering ds) d.name.name)) [ true ↦ d ∷ [] | false ↦ [] ]
