-- The widths of declarations by their numbers.
use Rattle.std.specs.Prelude.{◌≡◌, ℕ, suc, List, length, option_and_then, Option, None}
use Rattle.cmm_words.specs.declared.width.Width.{Width}
use Rattle.cmm_static_semantics.specs.Declarations.{Declared, Entry, Typedef}
use Rattle.cmm_static_semantics.specs.Scopes.{type_in}
use Rattle.cmm_unit_scope.specs.Numbers.{entry_at}
use Rattle.cmm_unit_scope.specs.inside.Numbers.{width_at}

-- the width of a typedef by n steps
abbrev pub entry_in : ℕ → List (Declared Entry) → Entry → Option Width
entry_in count ds (Typedef t) = type_in count ds t
entry_in count ds _ = None

abbrev pub value_in : List (Declared Entry) → ℕ → ℕ → Option Width
value_in ds count number = option_and_then (entry_in count ds) (entry_at ds number)

-- each typedef has its width, nothing else has one
abbrev pub AreWidths : List (Declared Entry) → List (Option Width) → Type 0
AreWidths ds widths = (number : ℕ) → width_at widths number ≡ value_in ds (suc (length ds)) number

-- and would have it after a step less
abbrev pub AreSettled : List (Declared Entry) → List (Option Width) → Type 0
AreSettled ds widths = (number : ℕ) → width_at widths number ≡ value_in ds (length ds) number
