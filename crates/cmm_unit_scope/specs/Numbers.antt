-- Declarations by their numbers, in textual order from 0.
use Rattle.std.specs.Prelude.{ℕ, zero, suc, List, [], ◌∷◌, Option, Some, None}
use Rattle.cmm_ast.specs.declared.expression.TypeName.{TypeName}
use Rattle.cmm_ast.specs.declared.expression.TypeForm.TheVariants.{Bits as OfBits, Named as OfName}
use Rattle.cmm_static_semantics.specs.Declarations.{Declared, Entry}
use Rattle.cmm_symbols.specs.Numbering.{number_in}

-- the declaration that a type names
abbrev pub type_number : List (Declared ℕ) → TypeName → Option ℕ
type_number numbers t = elim t.form [ OfBits width ↦ None | OfName name ↦ number_in numbers name ]

-- the declaration with a number
abbrev pub entry_at : List (Declared Entry) → ℕ → Option Entry
entry_at [] number = None
entry_at (d ∷ ds) zero = Some d.as_what
entry_at (d ∷ ds) (suc number) = entry_at ds number
