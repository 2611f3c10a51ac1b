-- The numbers of the declarations of names.
use Rattle.std.specs.Prelude.{ℕ, List, flat_map}
use Rattle.cmm_ast.specs.declared.token.Ident.{Ident}
use Rattle.cmm_static_semantics.specs.Declarations.{Declared}
use Rattle.cmm_static_semantics.specs.Mentions.{listed}
use Rattle.cmm_symbols.specs.Numbering.{number_in}

abbrev pub numbers_in : List (Declared ℕ) → List Ident → List ℕ
numbers_in numbers is = flat_map (λ i. listed (number_in numbers i.name)) is
