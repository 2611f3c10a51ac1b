-- What depends on itself in a unit, and what is noted before that of declarations that don't count.
use Rattle.std.specs.Prelude.{◌≡◌, ◌⊎◌, ℕ, Bool, true, false, List, [], ◌∷◌, ◌++◌, length, Option, Some}
use Rattle.cmm_ast.specs.declared.token.Ident.{Ident}
use Rattle.cmm_rules.specs.declared.rule.Rule.TheVariants.{Cycle}
use Rattle.cmm_static_semantics.specs.declared.spot.Spot.{Spot}
use Rattle.cmm_static_semantics.specs.Spots.{first_of, at}
use Rattle.cmm_static_semantics.specs.Declarations.{Declared, Entry, Typedef, Const}
use Rattle.cmm_static_semantics.specs.Units.{cycle_spots}
use Rattle.cmm_symbols.specs.Numbering.{numbering, number_in}

-- 39: a typedef or constant depends on itself
abbrev pub entry_cycle_spots : List (Declared Entry) → Declared Entry → List Spot
entry_cycle_spots ds d = elim d.as_what [ Typedef t ↦ cycle_spots ds d | Const t e ↦ cycle_spots ds d | _ ↦ [] ]

abbrev pub is_dependent : Entry → Bool
is_dependent (Typedef t) = true
is_dependent (Const t e) = true
is_dependent _ = false

-- a rule that is named before 39 is noted at a place or before it
abbrev pub IsNoted : ℕ → Option Spot → Type 0
IsNoted token best = first_of best (at Cycle token) ≡ best

-- a declaration, by its number, is the first of its name, or one that is noted
abbrev pub CountsOrIsNoted : List (Declared Entry) → ℕ → Ident → Option Spot → Type 0
CountsOrIsNoted ds number name best = (number_in (numbering ds) name.name ≡ Some number) ⊎ IsNoted name.token best

abbrev pub AreNoted : Option Spot → List (Declared Entry) → Type 0
AreNoted best ds = (xs ys : List (Declared Entry)) (d : Declared Entry) → ds ≡ xs ++ d ∷ ys → is_dependent d.as_what ≡ true → CountsOrIsNoted ds (length xs) d.name best
