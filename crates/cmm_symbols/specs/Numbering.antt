-- Declarations by their numbers, in textual order from 0.
use Rattle.std.specs.Prelude.{ℕ, suc, true, false, List, [], ◌∷◌, map, Option, None}
use Rattle.cmm_static_semantics.specs.Senses.{is_host}
use Rattle.cmm_static_semantics.specs.Declarations.{Declared, found}
use Rattle.cmm_symbols.specs.Shown.{with_what}

-- declarations as their numbers
abbrev pub numbering : {A : Type 0} → List (Declared A) → List (Declared ℕ)
numbering [] = []
numbering (d ∷ ds) = record { name = d.name; as_what = 0 } ∷ map (with_what (λ n. suc n)) (numbering ds)

-- the number of what a name is first declared as, where it is none of the host's
abbrev pub number_in : List (Declared ℕ) → List ℕ → Option ℕ
number_in numbers name = elim (is_host name) [ true ↦ None | false ↦ found name numbers ]
