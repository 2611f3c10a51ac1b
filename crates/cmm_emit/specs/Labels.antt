-- The labels of a unit, by their numbers.
use Rattle.std.specs.Prelude.{ℕ, zero, suc, Bool, true, false, List, [], ◌∷◌}
use Rattle.rv_asm.specs.declared.part.Label.{Label as CodeLabel}
use Rattle.rv_asm.specs.declared.part.Meaning.{Meaning}
use Rattle.rv_asm.specs.declared.part.Meaning.TheVariants.{Outer}
use Rattle.cmm_unit_code.specs.declared.unit_code.Reference.{Reference}
use Rattle.cmm_unit_code.specs.declared.unit_code.Reference.TheVariants as reference
use Rattle.cmm_emit.specs.declared.symbols.Sort.{Sort}
use Rattle.cmm_emit.specs.declared.symbols.Sort.TheVariants.{Register, Label, Procedure}

-- n labels whose numbers follow each other
abbrev pub labels_from : ℕ → ℕ → List CodeLabel
labels_from first zero = []
labels_from first (suc count) = record { number = first } ∷ labels_from (suc first) count

-- the one of a sort that has a number
abbrev pub reference_of : Sort → ℕ → Reference
reference_of Register n = reference.Register n
reference_of Label n = reference.Label n
reference_of Procedure n = reference.Procedure n

-- code is reached from where the code stands that names it, and all else stands for a number
abbrev pub is_reached : Reference → Bool
is_reached (reference.Procedure n) = true
is_reached _ = false

-- what labels mean that are made for each of a list, from a place of it on: the symbol of this place
abbrev pub symbol_labels_from : ℕ → List Reference → List Meaning
symbol_labels_from first [] = []
symbol_labels_from first (r ∷ rs) = Outer first (is_reached r) ∷ symbol_labels_from (suc first) rs

abbrev pub symbol_labels : List Reference → List Meaning
symbol_labels references = symbol_labels_from 0 references
