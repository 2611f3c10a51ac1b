-- The labels of code that is tried: three symbols, and two places.
use Rattle.std.specs.Prelude.{ℕ, zero, suc, List, [], ◌∷◌, ◌++◌, false, true}
use Rattle.rv_asm.specs.declared.part.Meaning.{Meaning}
use Rattle.rv_asm.specs.declared.part.Meaning.TheVariants.{Inner, Outer}

abbrev pub at_first : List Meaning
at_first = Outer 0 false ∷ Outer 1 false ∷ Outer 2 false ∷ Inner false ∷ Inner false ∷ []

-- n labels that have their places
abbrev pub placed : ℕ → List Meaning
placed zero = []
placed (suc n) = placed n ++ Inner true ∷ []
