-- Which declaration names another as its type, and their widths.
use Rattle.std.specs.Prelude.{ℕ, List, map, slice_index_or, option_and_then, Option, Some, None}
use Rattle.cmm_words.specs.declared.width.Width.{Width}
use Rattle.cmm_ast.specs.declared.expression.TypeName.{TypeName}
use Rattle.cmm_ast.specs.declared.expression.TypeForm.TheVariants.{Bits as OfBits, Named as OfName}
use Rattle.cmm_static_semantics.specs.declared.sense.Sense.{Sense}
use Rattle.cmm_static_semantics.specs.Mentions.{listed}
use Rattle.cmm_static_semantics.specs.Declarations.{Declared, Entry, Typedef}
use Rattle.cmm_static_semantics.specs.Scopes.{typedef_sense}
use Rattle.cmm_symbols.specs.Numbering.{number_in}
use Rattle.cmm_unit_scope.specs.Numbers.{type_number}

-- the declaration that a typedef names as its type
abbrev pub entry_number : List (Declared ℕ) → Entry → Option ℕ
entry_number numbers (Typedef t) = type_number numbers t
entry_number numbers _ = None

abbrev pub type_graph : List (Declared ℕ) → List (Declared Entry) → List (List ℕ)
type_graph numbers ds = map (λ d. listed (entry_number numbers d.as_what)) ds

-- ---- widths

abbrev pub width_at : List (Option Width) → ℕ → Option Width
width_at widths number = slice_index_or widths number None

-- the width of a type, where declarations have widths
abbrev pub type_by : (ℕ → Option Width) → List (Declared ℕ) → TypeName → Option Width
type_by width numbers t = elim t.form [ OfBits w ↦ Some w | OfName name ↦ option_and_then width (number_in numbers name) ]

abbrev pub entry_by : (ℕ → Option Width) → List (Declared ℕ) → Entry → Option Width
entry_by width numbers (Typedef t) = type_by width numbers t
entry_by width numbers _ = None

-- ---- what declarations mean as types

abbrev pub sense_by : Option Width → Entry → Option Sense
sense_by width e = typedef_sense (λ t. width) (Some e)
